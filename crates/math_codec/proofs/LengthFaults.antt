-- The faults that a read of a length meets.
use Rattle.std.proofs.Common.{◌≡◌, ◌⊎◌, ℕ, zero, suc, ◌+◌, ◌-◌, ◌*◌, ◌<◌, ◌≤◌, false, cond, ltb, eqb, List, [], ◌∷◌, length, Result, Ok, Err, refl, arith, inl, inr}
use Rattle.std.specs.List.{All}
use Rattle.std.proofs.lemmas.Bool.{le-ltb, ne_eqb, ltb-false}
use Rattle.std.proofs.lemmas.List.Elements.{All-cons, All-tail}
use Rattle.math_codec.specs.Faults.{Fault, EndOfBuffer, InvalidVarint, ◌>>=◌}
use Rattle.math_codec.specs.Lengths.{rest_at, length_at}
use Rattle.math_codec.proofs.ScanParts.{chosen, bind_err}

-- bit 7 is set on each
abbrev pub IsMarked : List ℕ → Type 0
IsMarked bytes = All (λ byte. 128 ≤ byte) bytes

none_marked : IsMarked []
none_marked k d lt = absurd (omega arith)

-- the fault of bytes of which there may be so many: they are fewer and all marked, or it is an invalid varint
abbrev pub IsFaultOf : ℕ → List ℕ → Fault → Type 0
IsFaultOf most bytes fault = ((fault ≡ EndOfBuffer) × (length bytes < most) × IsMarked bytes) ⊎ (fault ≡ InvalidVarint)

no_fault : {A : Type 0} (x : A) (most : ℕ) (bytes : List ℕ) (fault : Fault) (read : Result A Fault) → read ≡ Ok x → read ≡ Err fault → IsFaultOf most bytes fault
no_fault x most bytes fault read d e = absurd cc

fault_varint : {A : Type 0} (most : ℕ) (bytes : List ℕ) (fault : Fault) (read : Result A Fault) → read ≡ Err InvalidVarint → read ≡ Err fault → IsFaultOf most bytes fault
fault_varint most bytes fault read d e = inr cc

-- a marked byte, before what meets a fault
fault_after : (most byte : ℕ) (after : List ℕ) (fault : Fault) → 128 ≤ byte → IsFaultOf most after fault → IsFaultOf (suc most) (byte ∷ after) fault
fault_after most byte after fault marked (inl h) = inl (h.0, omega (arith, h.1), All-cons (λ b. 128 ≤ b) byte after marked h.2)
fault_after most byte after fault marked (inr h) = inr h

rest_fault : (more : ℕ) (bytes : List ℕ) (fault : Fault) → rest_at more bytes ≡ Err fault → IsFaultOf (suc more) bytes fault
unfolding rest_at
rest_fault more [] fault e = inl (cc, omega arith, none_marked)
rest_fault zero (byte ∷ after) fault e =
    elim (chosen (eqb byte 0) (Err InvalidVarint) (cond (ltb byte 16) (Ok (byte, after)) (Err InvalidVarint)) (Err fault) e) [
      | inl z ↦ fault_varint 1 (byte ∷ after) fault (Err InvalidVarint) refl z.1
      | inr z ↦ elim (chosen (ltb byte 16) (Ok (byte, after)) (Err InvalidVarint) (Err fault) z.1) [
        | inl y ↦ no_fault (byte, after) 1 (byte ∷ after) fault (Ok (byte, after)) refl y.1
        | inr y ↦ fault_varint 1 (byte ∷ after) fault (Err InvalidVarint) refl y.1
      ]
    ]
rest_fault (suc more) (byte ∷ after) fault e =
    elim (chosen (eqb byte 0) (Err InvalidVarint) (cond (ltb byte 128) (Ok (byte, after)) (rest_at more after >>= λ high. Ok (byte - 128 + 128 * high.0, high.1))) (Err fault) e) [
      | inl z ↦ fault_varint (suc (suc more)) (byte ∷ after) fault (Err InvalidVarint) refl z.1
      | inr z ↦ elim (chosen (ltb byte 128) (Ok (byte, after)) (rest_at more after >>= λ high. Ok (byte - 128 + 128 * high.0, high.1)) (Err fault) z.1) [
        | inl y ↦ no_fault (byte, after) (suc (suc more)) (byte ∷ after) fault (Ok (byte, after)) refl y.1
        | inr y ↦ fault_after (suc more) byte after fault (ltb-false byte 128 y.0) (rest_fault more after fault (bind_err (rest_at more after) (λ high. (byte - 128 + 128 * high.0, high.1)) fault y.1))
      ]
    ]

length_fault : (bytes : List ℕ) (fault : Fault) → length_at bytes ≡ Err fault → IsFaultOf 5 bytes fault
unfolding length_at
length_fault [] fault e = inl (cc, omega arith, none_marked)
length_fault (byte ∷ after) fault e =
    elim (chosen (ltb byte 128) (Ok (byte, after)) (rest_at 3 after >>= λ high. Ok (byte - 128 + 128 * high.0, high.1)) (Err fault) e) [
      | inl y ↦ no_fault (byte, after) 5 (byte ∷ after) fault (Ok (byte, after)) refl y.1
      | inr y ↦ fault_after 4 byte after fault (ltb-false byte 128 y.0) (rest_fault 3 after fault (bind_err (rest_at 3 after) (λ high. (byte - 128 + 128 * high.0, high.1)) fault y.1))
    ]

rest_ends : (more : ℕ) (bytes : List ℕ) → length bytes < suc more → IsMarked bytes → rest_at more bytes ≡ Err EndOfBuffer
unfolding rest_at
rest_ends more [] few marked = refl
rest_ends zero (byte ∷ after) few marked = absurd (omega arith)
rest_ends (suc more) (byte ∷ after) few marked =
    let above : 128 ≤ byte = marked 0 0 (omega arith) in
    let nonzero : eqb byte 0 ≡ false = ne_eqb byte 0 (λ e. omega arith) in
    let large : ltb byte 128 ≡ false = le-ltb byte 128 above in
    let others : rest_at more after ≡ Err EndOfBuffer = rest_ends more after (omega arith) (All-tail (λ b. 128 ≤ b) byte after marked) in
    rw (nonzero, large, others) refl

pub length_ends : (bytes : List ℕ) → length bytes < 5 → IsMarked bytes → length_at bytes ≡ Err EndOfBuffer
unfolding length_at
length_ends [] few marked = refl
length_ends (byte ∷ after) few marked =
    let above : 128 ≤ byte = marked 0 0 (omega arith) in
    let large : ltb byte 128 ≡ false = le-ltb byte 128 above in
    let others : rest_at 3 after ≡ Err EndOfBuffer = rest_ends 3 after (omega arith) (All-tail (λ b. 128 ≤ b) byte after marked) in
    rw (large, others) refl

-- where the end is met, few bytes remain, and all are marked
pub end_met : (bytes : List ℕ) → length_at bytes ≡ Err EndOfBuffer → (length bytes < 5) × IsMarked bytes
end_met bytes e =
    elim (length_fault bytes EndOfBuffer e) [
      | inl h ↦ (h.1, h.2)
      | inr h ↦ let no : EndOfBuffer ≡ InvalidVarint = h in absurd cc
    ]

pub two_faults : (bytes : List ℕ) (fault : Fault) → length_at bytes ≡ Err fault → (fault ≡ EndOfBuffer) ⊎ (fault ≡ InvalidVarint)
two_faults bytes fault e =
    elim (length_fault bytes fault e) [
      | inl h ↦ inl h.0
      | inr h ↦ inr h
    ]
