-- The n-fold sum of a coefficient list, and the numbers that limbs write.
use Rattle.std.proofs.Common.{ℕ, zero, suc, List, [], ◌∷◌, map}
use Rattle.math_theory.specs.Laws.{IsEquality, IsGroup}
use Rattle.math_theory.specs.Powers.{multiple, power-zero, power-suc}
use Rattle.math_theory.specs.Coefficients.{coefficient, HaveSameCoefficients, polynomial_sum}
use Rattle.math_poly.specs.PolynomialLaws.{coefficient_of_sum, coefficient_of_map, coefficient_of_zero}

module _ {A : Type 0} {same : A → A → Type 0} {zero_of : A} {sum : A → A → A} {negative : A → A} (E : IsEquality same) (G : IsGroup same zero_of sum negative) where
  multiple_of_zero : (n : ℕ) → same (multiple zero_of sum zero_of n) zero_of
  multiple_of_zero zero = rw (power-zero zero_of sum zero_of) (E.reflexive zero_of)
  multiple_of_zero (suc n) = rw (power-suc zero_of sum zero_of n) (E.transitive _ _ _ (G.respects_sum _ _ _ _ (multiple_of_zero n) (E.reflexive zero_of)) (G.identity zero_of))

  -- a coefficient of the n-fold sum is the n-fold sum of the coefficient
  coefficient_of_repeated_sum : (a : List A) (n i : ℕ) → same (coefficient zero_of (multiple (zero_of ∷ []) (polynomial_sum sum) a n) i) (multiple zero_of sum (coefficient zero_of a i) n)
  coefficient_of_repeated_sum a zero i =
      rw (power-zero (zero_of ∷ []) (polynomial_sum sum) a, power-zero zero_of sum (coefficient zero_of a i)) (coefficient_of_zero E G i)
  coefficient_of_repeated_sum a (suc n) i =
      rw (power-suc (zero_of ∷ []) (polynomial_sum sum) a n, power-suc zero_of sum (coefficient zero_of a i) n)
      (E.transitive _ _ _ (coefficient_of_sum E G (multiple (zero_of ∷ []) (polynomial_sum sum) a n) a i) (G.respects_sum _ _ _ _ (coefficient_of_repeated_sum a n i) (E.reflexive _)))

  -- the n-fold sums of the coefficients are the coefficients of the n-fold sum
  pub map_is_multiple : (a b : List A) (n : ℕ) → HaveSameCoefficients same zero_of b (map (λ c. multiple zero_of sum c n) a)
      → HaveSameCoefficients same zero_of b (multiple (zero_of ∷ []) (polynomial_sum sum) a n)
  map_is_multiple a b n h i =
      E.transitive _ _ _ (h i)
      (E.transitive _ _ _ (coefficient_of_map E (λ c. multiple zero_of sum c n) (multiple_of_zero n) a i) (E.symmetric _ _ (coefficient_of_repeated_sum a n i)))
