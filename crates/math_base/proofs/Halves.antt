-- In a field with halves, the half of a value is the value times the inverse of two.
use Rattle.math_theory.specs.Laws.{IsEquality, IsGroup, IsProduct, IsRing, IsField}
use Rattle.math_theory.specs.ModuleLaws.{ring_is_module}

module _ {A : Type 0} {same : A → A → Type 0} {zero : A} {sum : A → A → A} {negative : A → A} {product : A → A → A} {one : A} {inverse : A → A}
    (E : IsEquality same) (G : IsGroup same zero sum negative) (P : IsProduct same product) (R : IsRing same sum product one) (F : IsField same zero product one inverse)
    (half : A → A) (half_twice : (a : A) → same (product (half a) (sum one one)) a) where
  two_is_not_zero : same (sum one one) zero → ⊥
  two_is_not_zero h =
      F.distinct
      (E.transitive _ _ _ (E.symmetric _ _ (half_twice one))
      (E.transitive _ _ _ (P.respects _ _ _ _ (E.reflexive (half one)) h) ((ring_is_module E G P R).annihilation (half one))))

  inverse_of_two : (a : A) → same (product (inverse (sum one one)) a) (half a)
  inverse_of_two a =
      let t = sum one one in
      grw (
        E.transitive,
        E.reflexive,
        P.respects,
        E.symmetric _ _ (half_twice a),
        P.commutative (inverse t) (product (half a) t),
        P.associative (half a) t (inverse t),
        F.inverts t two_is_not_zero,
        P.commutative (half a) one,
        R.identity (half a),
      )

  -- the value, times the inverse of a value that is the double of one
  pub half_by_inverse : (unit two inverted out a : A) → same unit one → same two (sum unit unit) → same inverted (inverse two) → same out (product inverted a) → same out (half a)
  half_by_inverse unit two inverted out a h k l m =
      let doubled : same two (sum one one) = E.transitive _ _ _ k (G.respects_sum _ _ _ _ h h) in
      E.transitive _ _ _ m (E.transitive _ _ _ (P.respects _ _ _ _ (E.transitive _ _ _ l (F.respects _ _ doubled)) (E.reflexive a)) (inverse_of_two a))
