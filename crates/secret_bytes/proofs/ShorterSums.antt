-- The sum of products over the shorter of two lists.
use Rattle.std.proofs.Common.{◌≡◌, ℕ, zero, suc, ◌≤◌, List, [], ◌∷◌, length, take, refl, ap, arith}
use Rattle.math_theory.specs.Sums.{weighted_sum}

module _ {A B : Type 0} (nought : A) (sum : A → A → A) (scaling : A → B → A) where
  -- points beyond the last scalar do not count
  pub weighted_sum-take : (n : ℕ) (points : List A) (scalars : List B) → length scalars ≤ n → weighted_sum nought sum scaling (take n points) scalars ≡ weighted_sum nought sum scaling points scalars
  weighted_sum-take zero [] scalars h = refl
  weighted_sum-take zero (p ∷ points) [] h = refl
  weighted_sum-take zero (p ∷ points) (s ∷ scalars) h = absurd (omega (arith, h))
  weighted_sum-take (suc n) [] scalars h = refl
  weighted_sum-take (suc n) (p ∷ points) [] h = refl
  weighted_sum-take (suc n) (p ∷ points) (s ∷ scalars) h = ap (λ x. sum (scaling p s) x) (weighted_sum-take n points scalars (omega (arith, h)))
