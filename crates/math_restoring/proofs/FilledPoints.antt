-- Points of a domain that are filled one by one.
use Rattle.std.proofs.Common.{◌≡◌, ◌≢◌, ◌∙◌, inl, inr, ℕ, zero, suc, ◌+◌, ◌<◌, ◌^◌, List, [], ◌∷◌, Bool, true, false, length, replicate, get_or, refl, sym, ap, true≢false, arith}
use Rattle.std.proofs.Math.ListN.{set}
use Rattle.std.proofs.lemmas.Bool.{cases_lt}
use Rattle.std.proofs.lemmas.Grind.{get_or-set_at}
use Rattle.std.proofs.lemmas.List.{get_or-set_other, length-set}
use Rattle.math_theory.specs.Recovery.{count_true}
use Rattle.math_theory.proofs.recovery.FilledItems.{count_true-false, count_true-true}
use Rattle.math_restoring.specs.Restored.{AreDistinct}

-- no place is filled
pub count_true-none : (n : ℕ) → count_true (replicate n false) ≡ 0
count_true-none zero = refl
count_true-none (suc n) = count_true-false (replicate n false) ∙ count_true-none n

-- one place more
pub count_true-set : (filled : List Bool) (i : ℕ) → i < length filled → get_or filled i false ≡ false → count_true (set filled i true) ≡ count_true filled + 1
count_true-set [] i l f = absurd (omega (arith, l))
count_true-set (true ∷ filled) zero l f = absurd (true≢false f)
count_true-set (false ∷ filled) zero l f = omega (arith, count_true-true filled, count_true-false filled)
count_true-set (true ∷ filled) (suc i) l f =
    omega (arith, count_true-true filled, count_true-true (set filled i true), count_true-set filled i (omega (arith, l)) f)
count_true-set (false ∷ filled) (suc i) l f =
    omega (arith, count_true-false filled, count_true-false (set filled i true), count_true-set filled i (omega (arith, l)) f)

-- of 2^lg points those of the first n indices are filled, and no others
pub record AreFilledBefore (lg : ℕ) (indices : List ℕ) (n : ℕ) (points : List Bool) : Type 0 where
  pub size : length points ≡ 2 ^ lg
  pub filled : (t : ℕ) → t < n → get_or points (get_or indices t 0) false ≡ true
  pub others : (i : ℕ) → ((t : ℕ) → t < n → get_or indices t 0 ≢ i) → get_or points i false ≡ false
  pub count : count_true points ≡ n

-- one more
pub filled-more : (lg : ℕ) (indices : List ℕ) (n : ℕ) (points : List Bool) → AreDistinct indices → n < length indices → get_or indices n 0 < 2 ^ lg → AreFilledBefore lg indices n points
    → AreFilledBefore lg indices (n + 1) (set points (get_or indices n 0) true)
filled-more lg indices n points distinct l below h =
    let i = get_or indices n 0 in
    let inside : i < length points = omega (arith, below, h.size) in
    record {
      size = length-set points i true ∙ h.size;
      filled = λ t b. elim (cases_lt t n) as (λ _. get_or (set points i true) (get_or indices t 0) false ≡ true) [
        | inl before ↦ get_or-set_other points i (get_or indices t 0) true false (distinct t n before l) ∙ h.filled t before
        | inr after ↦
            let now : t ≡ n = omega (arith, b, after) in
            get_or-set_at points i (get_or indices t 0) true false (ap (λ m. get_or indices m 0) now) inside
      ];
      others = λ j apart. get_or-set_other points i j true false (λ e. apart n (omega arith) (sym e)) ∙ h.others j (λ t b. apart t (omega (arith, b)));
      count = count_true-set points i inside (h.others i (λ t b. distinct t n b l)) ∙ ap (λ m. m + 1) h.count;
    }
