-- A polynomial whose coefficients are one point scaled by scalars: its values are the point scaled by those of the polynomial with these scalars.
use Rattle.std.proofs.Common.{ℕ, suc, List, [], ◌∷◌}
use Rattle.std.specs.List.{AllZip}
use Rattle.math_theory.specs.Laws.{IsEquality, IsGroup, IsModule}
use Rattle.math_theory.specs.Powers.{power}
use Rattle.math_theory.specs.Values.{value_from, value_over}

module _ {A B : Type 0} {same : A → A → Type 0} {zero : A} {sum : A → A → A} {negative : A → A} {scaling : A → B → A} {same_scalar : B → B → Type 0}
    {zero_scalar : B} {sum_scalar : B → B → B} {product : B → B → B} {one : B}
    (E : IsEquality same) (G : IsGroup same zero sum negative) (M : IsModule same zero sum scaling same_scalar zero_scalar sum_scalar product one) where
  value_from-scaled_point : (point : A) (r : B) (i : ℕ) (scalars : List B) (p : List A) → AllZip (λ s x. same x (scaling point s)) scalars p
      → same (value_from zero sum scaling one product r i p) (scaling point (value_from zero_scalar sum_scalar product one product r i scalars))
  value_from-scaled_point point r i [] [] h = E.symmetric _ _ (M.annihilation point)
  value_from-scaled_point point r i [] (x ∷ p) h = absurd h
  value_from-scaled_point point r i (s ∷ scalars) [] h = absurd h
  value_from-scaled_point point r i (s ∷ scalars) (x ∷ p) h =
      let t = power one product r i in
      let here : same (scaling x t) (scaling point (product s t)) = E.transitive _ _ _ (M.respects_points _ _ t h.0) (M.product_of_scalars point s t) in
      E.transitive _ _ _ (G.respects_sum _ _ _ _ here (value_from-scaled_point point r (suc i) scalars p h.1))
      (E.symmetric _ _ (M.sum_of_scalars point (product s t) (value_from zero_scalar sum_scalar product one product r (suc i) scalars)))

  pub value_over-scaled_point : (point : A) (r : B) (scalars : List B) (p : List A) → AllZip (λ s x. same x (scaling point s)) scalars p
      → same (value_over zero sum scaling one product r p) (scaling point (value_over zero_scalar sum_scalar product one product r scalars))
  value_over-scaled_point point r scalars p h = value_from-scaled_point point r 0 scalars p h
