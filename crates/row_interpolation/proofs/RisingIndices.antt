-- Rising indices.
use Rattle.std.proofs.Common.{◌≡◌, ℕ, zero, suc, ◌+◌, ◌-◌, ◌<◌, ◌≤◌, List, length, get_or, ap, subst, inl, inr, arith}
use Rattle.std.specs.List.Sorted.{IsStrictlyIncreasing}
use Rattle.std.proofs.lemmas.Bool.{cases_lt}
use Rattle.math_transforms.specs.RootWeights.{AreRising}
use Rattle.math_restoring.specs.Restored.{AreDistinct}

-- a later item of a rising list is greater
later : (xs : List ℕ) (i n : ℕ) → IsStrictlyIncreasing xs → i + n + 1 < length xs → get_or xs i 0 < get_or xs (i + n + 1) 0
later xs i zero h l = subst (λ m. get_or xs i 0 < get_or xs m 0) (let e : i + 1 ≡ i + zero + 1 = omega arith in e) (h i (omega (arith, l)))
later xs i (suc n) h l =
    let a : get_or xs i 0 < get_or xs (i + n + 1) 0 = later xs i n h (omega (arith, l)) in
    let b : get_or xs (i + n + 1) 0 < get_or xs (i + n + 1 + 1) 0 = h (i + n + 1) (omega (arith, l)) in
    omega (arith, a, b, ap (λ m. get_or xs m 0) (let e : i + n + 1 + 1 ≡ i + suc n + 1 = omega arith in e))

pub rising-before : (xs : List ℕ) (i j : ℕ) → IsStrictlyIncreasing xs → i < j → j < length xs → get_or xs i 0 < get_or xs j 0
rising-before xs i j h before l =
    let e : i + (j - i - 1) + 1 ≡ j = omega (arith, before) in
    subst (λ m. get_or xs i 0 < get_or xs m 0) e (later xs i (j - i - 1) h (omega (arith, e, l)))

-- rising numbers are distinct
pub rising-distinct : (xs : List ℕ) → IsStrictlyIncreasing xs → AreDistinct xs
rising-distinct xs h i j before l e = omega (arith, e, rising-before xs i j h before l)

-- item k of rising numbers is k or more
rising-least : (xs : List ℕ) (k : ℕ) → IsStrictlyIncreasing xs → k < length xs → k ≤ get_or xs k 0
rising-least xs zero h l = omega arith
rising-least xs (suc k) h l =
    let before : k ≤ get_or xs k 0 = rising-least xs k h (omega (arith, l)) in
    let less : get_or xs k 0 < get_or xs (k + 1) 0 = h k (omega (arith, l)) in
    omega (arith, before, less, ap (λ m. get_or xs m 0) (let e : k + 1 ≡ suc k = omega arith in e))

-- so there are no more indices than their total
pub rising-count : (total : ℕ) (xs : List ℕ) → AreRising total xs → length xs ≤ total
rising-count total xs h = elim (cases_lt 0 (length xs)) [
  | inl some ↦
      let last : ℕ = length xs - 1 in
      let l : last < length xs = omega (arith, some) in
      omega (arith, some, rising-least xs last h.0 l, h.1 last 0 l)
  | inr none ↦ omega (arith, none)
]
