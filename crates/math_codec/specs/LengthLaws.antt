-- A length that is spelled is read again, and no spelling begins another.
use Rattle.std.proofs.Common.{◌≡◌, ℕ, zero, suc, ◌+◌, ◌-◌, ◌*◌, ◌/◌, ◌%◌, ◌^◌, ◌<◌, true, false, ltb, eqb, List, ◌++◌, Result, Ok, refl, ap, ◌∙◌, arith, inl, inr}
use Rattle.std.proofs.Math.Nat.{pow-succ'}
use Rattle.std.proofs.lemmas.Bool.{cases_lt, lt-ltb, le-ltb, ne_eqb}
use Rattle.std.proofs.lemmas.Nat.{div_below}
use Rattle.math_codec.specs.Faults.{Fault}
use Rattle.math_codec.specs.Lengths.{groups, length_spelling, rest_at, length_at}

rest_again : (more n : ℕ) (rest : List ℕ) → 0 < n → n < 16 * 128 ^ more → rest_at more (groups more n ++ rest) ≡ Ok (n, rest)
unfolding rest_at groups
rest_again zero n rest pos lt =
    let nonzero : eqb n 0 ≡ false = ne_eqb n 0 (λ e. omega arith) in
    let small : ltb n 16 ≡ true = lt-ltb n 16 (omega arith) in
    rw (nonzero, small) refl
rest_again (suc more) n rest pos lt =
    elim (cases_lt n 128) [
      | inl below ↦
          let nonzero : eqb n 0 ≡ false = ne_eqb n 0 (λ e. omega arith) in
          let small : ltb n 128 ≡ true = lt-ltb n 128 below in
          rw (small, nonzero, small) refl
      | inr above ↦
          let large : ltb n 128 ≡ false = le-ltb n 128 above in
          let nonzero : eqb (128 + n % 128) 0 ≡ false = ne_eqb (128 + n % 128) 0 (λ e. omega arith) in
          let marked : ltb (128 + n % 128) 128 ≡ false = le-ltb (128 + n % 128) 128 (omega arith) in
          let high : n / 128 < 16 * 128 ^ more = div_below n 128 (16 * 128 ^ more) (omega arith) (omega (arith, pow-succ' 128 more)) in
          let again : rest_at more (groups more (n / 128) ++ rest) ≡ Ok (n / 128, rest) = rest_again more (n / 128) rest (omega arith) high in
          let joined : 128 + n % 128 - 128 + 128 * (n / 128) ≡ n = omega arith in
          rw (large, nonzero, marked, again, joined) refl
    ]

pub length_again : (n : ℕ) (rest : List ℕ) → n < 2 ^ 32 → length_at (length_spelling n ++ rest) ≡ Ok (n, rest)
unfolding length_at groups
length_again n rest lt =
    elim (cases_lt n 128) [
      | inl below ↦
          let small : ltb n 128 ≡ true = lt-ltb n 128 below in
          rw (small, small) refl
      | inr above ↦
          let large : ltb n 128 ≡ false = le-ltb n 128 above in
          let marked : ltb (128 + n % 128) 128 ≡ false = le-ltb (128 + n % 128) 128 (omega arith) in
          let again : rest_at 3 (groups 3 (n / 128) ++ rest) ≡ Ok (n / 128, rest) = rest_again 3 (n / 128) rest (omega arith) (div_below n 128 (16 * 128 ^ 3) (omega arith) (omega arith)) in
          let joined : 128 + n % 128 - 128 + 128 * (n / 128) ≡ n = omega arith in
          rw (large, marked, again, joined) refl
    ]

-- a read gives one number and one rest
pub one_read : {A B : Type 0} (x y : A × B) (read : Result (A × B) Fault) → read ≡ Ok x → read ≡ Ok y → (x.0 ≡ y.0) × (x.1 ≡ y.1)
one_read {A} {B} x y read d e =
    let p : x ≡ y = cc in
    (ap (λ (z : A × B). z.0) p, ap (λ (z : A × B). z.1) p)

pub lengths_apart : (m n : ℕ) (x y : List ℕ) → m < 2 ^ 32 → n < 2 ^ 32 → length_spelling m ++ x ≡ length_spelling n ++ y → (m ≡ n) × (x ≡ y)
lengths_apart m n x y h k e = one_read (m, x) (n, y) (length_at (length_spelling m ++ x)) (length_again m x h) (ap length_at e ∙ length_again n y k)
