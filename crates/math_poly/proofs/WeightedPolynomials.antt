-- The weighted sum of coefficient lists, coefficient by coefficient.
use Rattle.std.proofs.Common.{◌≡◌, ℕ, max, List, [], ◌∷◌, length, take, refl, ap, ◌∙◌, arith}
use Rattle.std.specs.List.{AllZip}
use Rattle.std.proofs.lemmas.List.{length-map}
use Rattle.math_theory.specs.Laws.{IsEquality, IsGroup, IsModule}
use Rattle.math_theory.specs.Sums.{weighted_sum}
use Rattle.math_theory.specs.Coefficients.{coefficient, polynomial_sum, polynomial_multiple}
use Rattle.math_poly.specs.PolynomialCounts.{greatest_count}
use Rattle.math_poly.specs.PolynomialLaws.{coefficient_of_sum, coefficient_of_multiple, coefficient_of_zero}

-- as many coefficients as the longer list
pub length-polynomial_sum : {A : Type 0} (sum : A → A → A) (a b : List A) → length (polynomial_sum sum a b) ≡ max (length a) (length b)
length-polynomial_sum sum [] b = omega arith
length-polynomial_sum sum (c ∷ a) [] = omega arith
length-polynomial_sum sum (c ∷ a) (d ∷ b) = let h = length-polynomial_sum sum a b in omega arith

-- points without a scalar have no part in it
pub weighted_sum-take : {A B : Type 0} (zero_of : A) (sum : A → A → A) (scaling : A → B → A) (points : List A) (scalars : List B)
    → weighted_sum zero_of sum scaling (take (length scalars) points) scalars ≡ weighted_sum zero_of sum scaling points scalars
weighted_sum-take zero_of sum scaling [] [] = refl
weighted_sum-take zero_of sum scaling [] (s ∷ scalars) = refl
weighted_sum-take zero_of sum scaling (p ∷ points) [] = refl
weighted_sum-take zero_of sum scaling (p ∷ points) (s ∷ scalars) = ap (sum (scaling p s)) (weighted_sum-take zero_of sum scaling points scalars)

-- the weighted sum has as many coefficients as the longest of the lists that have a scalar
pub length-weighted_sum : {A B : Type 0} (zero_of : A) (sum : A → A → A) (scaling : A → B → A) (points : List (List A)) (scalars : List B)
    → length (weighted_sum (zero_of ∷ []) (polynomial_sum sum) (polynomial_multiple scaling) points scalars) ≡ greatest_count (take (length scalars) points)
length-weighted_sum zero_of sum scaling [] [] = refl
length-weighted_sum zero_of sum scaling [] (s ∷ scalars) = refl
length-weighted_sum zero_of sum scaling (p ∷ points) [] = refl
length-weighted_sum zero_of sum scaling (p ∷ points) (s ∷ scalars) =
    length-polynomial_sum sum (polynomial_multiple scaling p s) (weighted_sum (zero_of ∷ []) (polynomial_sum sum) (polynomial_multiple scaling) points scalars)
    ∙ rw (length-map p (λ c. scaling c s), length-weighted_sum zero_of sum scaling points scalars) refl

module _ {A B : Type 0} {same : A → A → Type 0} {zero_of : A} {sum : A → A → A} {negative : A → A} {scaling : A → B → A} {same_scalar : B → B → Type 0}
    {zero_scalar : B} {sum_scalar : B → B → B} {product : B → B → B} {one : B}
    (E : IsEquality same) (G : IsGroup same zero_of sum negative) (M : IsModule same zero_of sum scaling same_scalar zero_scalar sum_scalar product one) where
  -- coefficient i of the weighted sum is the weighted sum of the coefficients i
  pub coefficient_of_weighted_sum : (points : List (List A)) (scalars : List B) (column : List A) (i : ℕ) → AllZip (λ p c. same c (coefficient zero_of p i)) points column
      → same (weighted_sum zero_of sum scaling column scalars) (coefficient zero_of (weighted_sum (zero_of ∷ []) (polynomial_sum sum) (polynomial_multiple scaling) points scalars) i)
  coefficient_of_weighted_sum [] scalars [] i h = E.symmetric _ _ (coefficient_of_zero E G i)
  coefficient_of_weighted_sum [] scalars (c ∷ column) i h = absurd h
  coefficient_of_weighted_sum (p ∷ points) scalars [] i h = absurd h
  coefficient_of_weighted_sum (p ∷ points) [] (c ∷ column) i h = E.symmetric _ _ (coefficient_of_zero E G i)
  coefficient_of_weighted_sum (p ∷ points) (s ∷ scalars) (c ∷ column) i h =
      let rest = weighted_sum (zero_of ∷ []) (polynomial_sum sum) (polynomial_multiple scaling) points scalars in
      E.transitive _ _ _
      (G.respects_sum _ _ _ _ (E.transitive _ _ _ (M.respects_points _ _ s h.0) (E.symmetric _ _ (coefficient_of_multiple E G M p s i))) (coefficient_of_weighted_sum points scalars column i h.1))
      (E.symmetric _ _ (coefficient_of_sum E G (polynomial_multiple scaling p s) rest i))
