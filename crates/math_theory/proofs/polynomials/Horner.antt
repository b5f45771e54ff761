-- Horner's rule over a module, up to the type's own equality: the value of a ∷ p at r is a plus the value of p at r scaled by r.
use Rattle.std.proofs.Common.{ℕ, suc, List, [], ◌∷◌, ◌++◌, map, reverse, Bor}
use Rattle.std.proofs.lemmas.List.{map-append, reverse-append}
use Rattle.math_theory.specs.Coefficients.{coefficient}
use Rattle.math_theory.specs.Laws.{IsEquality, IsGroup, IsModule}
use Rattle.math_theory.specs.Powers.{power, power-zero, power-suc}
use Rattle.math_theory.specs.Values.{value_from, value_over}
use Rattle.math_theory.specs.ModuleLaws.{double_itself}

module _ {A B : Type 0} {same : A → A → Type 0} {zero : A} {sum : A → A → A} {negative : A → A} {scaling : A → B → A} {same_scalar : B → B → Type 0}
    {zero_scalar : B} {sum_scalar : B → B → B} {product : B → B → B} {one : B}
    (E : IsEquality same) (G : IsGroup same zero sum negative) (M : IsModule same zero sum scaling same_scalar zero_scalar sum_scalar product one) where
  pub scaling_zero : (r : B) → same (scaling zero r) zero
  scaling_zero r =
      double_itself E G (scaling zero r) (E.transitive _ _ _ (E.symmetric _ _ (M.sum_of_points zero zero r)) (M.respects_points (sum zero zero) zero r (G.identity zero)))

  -- one power more throughout is a scaling by r
  pub value_from-suc : (r : B) (i : ℕ) (p : List A) → same (value_from zero sum scaling one product r (suc i) p) (scaling (value_from zero sum scaling one product r i p) r)
  value_from-suc r i [] = E.symmetric _ _ (scaling_zero r)
  value_from-suc r i (a ∷ p) =
      rw (power-suc one product r i)
      (let s = λ (x y : A). E.symmetric x y in
      grw (
        E.transitive,
        E.reflexive,
        G.respects_sum,
        s _ _ (M.product_of_scalars a (power one product r i) r),
        value_from-suc r (suc i) p,
        ← s _ _ (M.sum_of_points (scaling a (power one product r i)) (value_from zero sum scaling one product r (suc i) p) r),
      ))

  -- the value of a ∷ p is a plus the value of p scaled by r
  pub value_over-cons : (r : B) (a : A) (p : List A) → same (value_over zero sum scaling one product r (a ∷ p)) (sum a (scaling (value_over zero sum scaling one product r p) r))
  value_over-cons r a p =
      rw (power-zero one product r) (G.respects_sum _ _ _ _ (M.identity a) (value_from-suc r 0 p))

  -- the value at zero is the first coefficient
  pub value_over-at_zero : (a : List A) → same (value_over zero sum scaling one product zero_scalar a) (coefficient zero a 0)
  value_over-at_zero [] = E.reflexive zero
  value_over-at_zero (c ∷ a) =
      E.transitive _ _ _ (value_over-cons zero_scalar c a)
      (E.transitive _ _ _ (G.respects_sum _ _ _ _ (E.reflexive c) (M.annihilation (value_over zero sum scaling one product zero_scalar a))) (E.transitive _ _ _ (G.commutative c zero) (G.identity c)))

  -- a step of the loop that goes over the coefficients from the last to the first
  pub horner_step : (taken : List (Bor A)) (b : Bor A) (r : B) (before scaled after : A) → same before (value_over zero sum scaling one product r (reverse (map (λ x. x.now) taken)))
      → same scaled (scaling before r) → same after (sum scaled b.now) → same after (value_over zero sum scaling one product r (reverse (map (λ x. x.now) (taken ++ (b ∷ [])))))
  horner_step taken b r before scaled after h k l =
      let p = reverse (map (λ (x : Bor A). x.now) taken) in
      let e : same (scaling before r) (scaling (value_over zero sum scaling one product r p) r) = M.respects_points _ _ r h in
      rw (map-append, reverse-append)
      (E.transitive _ _ _ (grw (E.transitive, E.reflexive, G.respects_sum, l, k, e, G.commutative (scaling (value_over zero sum scaling one product r p) r) b.now))
      (E.symmetric _ _ (value_over-cons r b.now p)))
