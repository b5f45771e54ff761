-- Weighted sums of values: weights serve every space.
use Rattle.std.proofs.Common.{◌≤◌, List, [], ◌∷◌, length, map}
use Rattle.std.specs.List.{AllZip}
use Rattle.math_theory.specs.Interpolation.{AreWeightsAt}
use Rattle.math_theory.specs.Laws.{IsEquality, IsGroup, IsProduct, IsRing, IsModule}
use Rattle.math_theory.specs.Sums.{weighted_sum}
use Rattle.math_theory.specs.Values.{value_over}
use Rattle.math_theory.proofs.interpolation.WeightsInSpaces.{weights-value_over}

module _ {A B : Type 0} {same : A → A → Type 0} {zero_of : A} {sum : A → A → A} {negative : A → A} {scaling : A → B → A} {same_scalar : B → B → Type 0}
    {zero_scalar : B} {sum_scalar : B → B → B} {negative_scalar : B → B} {product : B → B → B} {one : B}
    (Es : IsEquality same_scalar) (Gs : IsGroup same_scalar zero_scalar sum_scalar negative_scalar) (Ps : IsProduct same_scalar product) (Rs : IsRing same_scalar sum_scalar product one)
    (E : IsEquality same) (G : IsGroup same zero_of sum negative) (M : IsModule same zero_of sum scaling same_scalar zero_scalar sum_scalar product one) where
  weighted_sum-alike : (points others : List A) (weights : List B) → AllZip same points others
      → same (weighted_sum zero_of sum scaling points weights) (weighted_sum zero_of sum scaling others weights)
  weighted_sum-alike [] [] weights h = E.reflexive zero_of
  weighted_sum-alike [] (q ∷ others) weights h = absurd h
  weighted_sum-alike (p ∷ points) [] weights h = absurd h
  weighted_sum-alike (p ∷ points) (q ∷ others) [] h = E.reflexive zero_of
  weighted_sum-alike (p ∷ points) (q ∷ others) (w ∷ weights) h = G.respects_sum _ _ _ _ (M.respects_points p q w h.0) (weighted_sum-alike points others weights h.1)

  -- what is the weighted sum of the values of a polynomial at the points is its value at x
  pub interpolated-value : (v : A) (values : List A) (weights : List B) → same v (weighted_sum zero_of sum scaling values weights)
      → (x : B) (points : List B) (a : List A) → AreWeightsAt same_scalar zero_scalar sum_scalar product one x points weights → length a ≤ length points
      → AllZip same values (map (λ p. value_over zero_of sum scaling one product p a) points) → same v (value_over zero_of sum scaling one product x a)
  interpolated-value v values weights h x points a W l e =
      E.transitive _ _ _ h
      (E.transitive _ _ _ (weighted_sum-alike values (map (λ p. value_over zero_of sum scaling one product p a) points) weights e) (weights-value_over Es Gs Ps Rs E G M x points weights W a l))
