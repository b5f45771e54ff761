-- A length is read where a spelling of it stands in front, and nowhere else.
use Rattle.std.proofs.Common.{◌≡◌, ℕ, zero, suc, ◌+◌, ◌-◌, ◌*◌, ◌/◌, ◌<◌, ◌≤◌, cond, ltb, eqb, List, [], ◌∷◌, ◌++◌, length, get_or, Result, Ok, Err, refl, ap, subst, ◌∙◌, arith, inl, inr}
use Rattle.std.specs.Prelude.{IfOk}
use Rattle.std.specs.List.{All}
use Rattle.std.proofs.lemmas.Bool.{cases_lt, ltb-true, ltb-false, eqb-false}
use Rattle.std.proofs.lemmas.List.{get_or_past}
use Rattle.math_codec.specs.declared.codec.error.Error.{Error}
use Rattle.math_codec.specs.Faults.{InvalidVarint, Agrees, ◌>>=◌}
use Rattle.math_codec.specs.Lengths.{length_spelling, rest_at, length_at, SpellsFrom, SpellsLength}
use Rattle.math_codec.specs.LengthLaws.{length_again, one_read}
use Rattle.math_codec.proofs.ScanParts.{bind_ok, chosen}
use Rattle.math_codec.proofs.Spellings.{spells_before, only_spelling, length_below}

-- each is below 256
abbrev pub IsBytes : List ℕ → Type 0
IsBytes bytes = (i : ℕ) → get_or bytes i 0 < 256

-- a byte past the end is given as 0
pub all_bytes : (bytes : List ℕ) → All (λ byte. byte < 256) bytes → IsBytes bytes
all_bytes bytes h i =
    elim (cases_lt i (length bytes)) [
      | inl lt ↦ h i 0 lt
      | inr le ↦ omega (arith, get_or_past bytes i 0 le)
    ]

IsBytes-rest : (byte : ℕ) (bytes : List ℕ) → IsBytes (byte ∷ bytes) → IsBytes bytes
IsBytes-rest byte bytes h i = h (suc i)

-- the bytes begin with a spelling of n from this place on, and then comes rest
pub record BeginsWith (place n : ℕ) (bytes rest : List ℕ) : Type 0 where
  pub spelling : List ℕ
  pub spells : SpellsFrom place n spelling
  pub parts : bytes ≡ spelling ++ rest

-- a byte with bit 7, before a spelling of the rest
joined : (place byte n high : ℕ) (bytes after rest : List ℕ) → place < 4 → 128 ≤ byte → byte < 256 → byte - 128 + 128 * high ≡ n
    → after ≡ rest → BeginsWith (place + 1) high bytes after → BeginsWith place n (byte ∷ bytes) rest
joined place byte n high bytes after rest lt marked fits e same h =
    let quotient : high ≡ n / 128 = omega arith in
    let others : SpellsFrom (place + 1) (n / 128) h.spelling = subst (λ (k : ℕ). SpellsFrom (place + 1) k h.spelling) quotient h.spells in
    record {
      spelling = byte ∷ h.spelling;
      spells = spells_before place n byte h.spelling (omega arith) lt others;
      parts = ap (λ (x : List ℕ). byte ∷ x) (h.parts ∙ ap (λ (x : List ℕ). h.spelling ++ x) same);
    }

rest_begins : (more place : ℕ) (bytes : List ℕ) (n : ℕ) (rest : List ℕ) → place + more ≡ 4 → 0 < place → IsBytes bytes → rest_at more bytes ≡ Ok (n, rest) → BeginsWith place n bytes rest
unfolding rest_at
rest_begins more place [] n rest sum pos fits e = absurd cc
rest_begins zero place (byte ∷ bytes) n rest sum pos fits e =
    elim (chosen (eqb byte 0) (Err InvalidVarint) (cond (ltb byte 16) (Ok (byte, bytes)) (Err InvalidVarint)) (Ok (n, rest)) e) [
      | inl z ↦ let no = z.1 in absurd cc
      | inr z ↦ elim (chosen (ltb byte 16) (Ok (byte, bytes)) (Err InvalidVarint) (Ok (n, rest)) z.1) [
        | inl y ↦
            let p = one_read (byte, bytes) (n, rest) (Ok (byte, bytes)) refl y.1 in
            let low : byte < 16 = ltb-true byte 16 y.0 in
            let some : 0 < byte = omega (arith, eqb-false byte 0 z.0) in
            record {
              spelling = byte ∷ [];
              spells = (p.0, record { clear = omega (arith, p.0); zero_first = λ e. absurd (omega (arith, p.0)); fifth = λ e. omega (arith, p.0) });
              parts = ap (λ (x : List ℕ). byte ∷ x) p.1;
            }
        | inr y ↦ let no = y.1 in absurd cc
      ]
    ]
rest_begins (suc more) place (byte ∷ bytes) n rest sum pos fits e =
    elim (chosen (eqb byte 0) (Err InvalidVarint) (cond (ltb byte 128) (Ok (byte, bytes)) (rest_at more bytes >>= λ high. Ok (byte - 128 + 128 * high.0, high.1))) (Ok (n, rest)) e) [
      | inl z ↦ let no = z.1 in absurd cc
      | inr z ↦ elim (chosen (ltb byte 128) (Ok (byte, bytes)) (rest_at more bytes >>= λ high. Ok (byte - 128 + 128 * high.0, high.1)) (Ok (n, rest)) z.1) [
        | inl y ↦
            let p = one_read (byte, bytes) (n, rest) (Ok (byte, bytes)) refl y.1 in
            let low : byte < 128 = ltb-true byte 128 y.0 in
            let some : 0 < byte = omega (arith, eqb-false byte 0 z.0) in
            record {
              spelling = byte ∷ [];
              spells = (p.0, record { clear = omega (arith, p.0); zero_first = λ e. absurd (omega (arith, p.0)); fifth = λ e. absurd (omega arith) });
              parts = ap (λ (x : List ℕ). byte ∷ x) p.1;
            }
        | inr y ↦
            let a = bind_ok (rest_at more bytes) (λ high. Ok (byte - 128 + 128 * high.0, high.1)) (n, rest) y.1 in
            let p = one_read (byte - 128 + 128 * a.0.0, a.0.1) (n, rest) (Ok (byte - 128 + 128 * a.0.0, a.0.1)) refl a.2 in
            let others = rest_begins more (place + 1) bytes a.0.0 a.0.1 (omega arith) (omega arith) (IsBytes-rest byte bytes fits) a.1 in
            joined place byte n a.0.0 bytes a.0.1 rest (omega arith) (ltb-false byte 128 y.0) (fits 0) p.0 p.1 others
      ]
    ]

pub length_begins : (bytes : List ℕ) (n : ℕ) (rest : List ℕ) → IsBytes bytes → length_at bytes ≡ Ok (n, rest) → BeginsWith 0 n bytes rest
unfolding length_at
length_begins [] n rest fits e = absurd cc
length_begins (byte ∷ bytes) n rest fits e =
    elim (chosen (ltb byte 128) (Ok (byte, bytes)) (rest_at 3 bytes >>= λ high. Ok (byte - 128 + 128 * high.0, high.1)) (Ok (n, rest)) e) [
      | inl y ↦
          let p = one_read (byte, bytes) (n, rest) (Ok (byte, bytes)) refl y.1 in
          let low : byte < 128 = ltb-true byte 128 y.0 in
          record {
            spelling = byte ∷ [];
            spells = (p.0, record { clear = omega (arith, p.0); zero_first = λ e. refl; fifth = λ e. absurd (omega arith) });
            parts = ap (λ (x : List ℕ). byte ∷ x) p.1;
          }
      | inr y ↦
          let a = bind_ok (rest_at 3 bytes) (λ high. Ok (byte - 128 + 128 * high.0, high.1)) (n, rest) y.1 in
          let p = one_read (byte - 128 + 128 * a.0.0, a.0.1) (n, rest) (Ok (byte - 128 + 128 * a.0.0, a.0.1)) refl a.2 in
          let others = rest_begins 3 1 bytes a.0.0 a.0.1 refl (omega arith) (IsBytes-rest byte bytes fits) a.1 in
          joined 0 byte n a.0.0 bytes a.0.1 rest (omega arith) (ltb-false byte 128 y.0) (fits 0) p.0 p.1 others
    ]

length_taken : (bytes : List ℕ) (n : ℕ) (rest : List ℕ) → IsBytes bytes → length_at bytes ≡ Ok (n, rest) → bytes ≡ length_spelling n ++ rest
length_taken bytes n rest fits e =
    let h = length_begins bytes n rest fits e in
    h.parts ∙ ap (λ (x : List ℕ). x ++ rest) (only_spelling n h.spelling h.spells)

-- what was given of the length in front was spelled so
pub given_taken : {X : Type 0} (number : X → ℕ) (rest : X → List ℕ) (bytes : List ℕ) (r : Result X Error) → IsBytes bytes → Agrees (λ x. (number x, rest x)) r (length_at bytes)
    → IfOk r (λ x. bytes ≡ length_spelling (number x) ++ rest x)
given_taken number rest bytes (Ok x) fits h = length_taken bytes (number x) (rest x) fits h
given_taken number rest bytes (Err e) fits h = tt

pub read_where_spelled : (n : ℕ) (bytes rest spelling : List ℕ) → SpellsLength n spelling → bytes ≡ spelling ++ rest → length_at bytes ≡ Ok (n, rest)
read_where_spelled n bytes rest spelling h e = ap length_at (e ∙ ap (λ (x : List ℕ). x ++ rest) (only_spelling n spelling h)) ∙ length_again n rest (length_below n spelling h)
