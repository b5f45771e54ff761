-- The inverse of a power of two.
use Rattle.std.proofs.Common.{◌≡◌, ◌∙◌, ℕ, ◌+◌, ◌≤◌, [], ◌∷◌, refl, ap, add-one, arith}
use Rattle.math_theory.specs.Laws.{IsEquality, IsGroup, IsProduct, IsRing}
use Rattle.math_theory.specs.Powers.{power, power-zero, power-suc}
use Rattle.math_theory.specs.Rings.{CommutativeRing}
use Rattle.math_theory.proofs.classes.Classes.{Class, class, class_same, same_class, ring_of_classes}
use Rattle.math_theory.proofs.rings.Normal.{ring, ◌⊗◌, v0, v1, v2}

module _ {A : Type 0} {same : A → A → Type 0} {zero_of : A} {sum : A → A → A} {negative : A → A} {product : A → A → A} {one : A}
    (E : IsEquality same) (G : IsGroup same zero_of sum negative) (P : IsProduct same product) (R : IsRing same sum product one) where
  abbrev C : CommutativeRing (Class E)
  C = ring_of_classes E G P R

  pub halved-none : (out : A) → same out one → same (product out (power one product (sum one one) 0)) one
  halved-none out h = rw (power-zero one product (sum one one)) (same_class E _ _ (ap (λ x. C.product x C.one) (class_same E _ _ h) ∙ C.product_one C.one))

  pub halved-more : (half : A → A) → ((a : A) → same (product (half a) (sum one one)) a) → (n : ℕ) (out new : A) → same new (half out)
      → same (product out (power one product (sum one one) n)) one → same (product new (power one product (sum one one) (n + 1))) one
  halved-more half twice n out new e h =
      let p = power one product (sum one one) n in
      rw (add-one n, power-suc one product (sum one one) n)
      (same_class E _ _
      (ap (λ x. C.product x (C.product (class E p) (C.sum C.one C.one))) (class_same E _ _ e)
      ∙ ring C (class E (half out) ∷ class E p ∷ C.sum C.one C.one ∷ []) (v0 ⊗ (v1 ⊗ v2)) ((v0 ⊗ v2) ⊗ v1) refl
      ∙ ap (λ x. C.product x (class E p)) (class_same E _ _ (twice out)) ∙ class_same E _ _ h))

  -- one is the inverse of two to the power zero, and nothing is changed by it
  pub halved-no_times : (lg : ℕ) → lg ≤ 0 → same (product one (power one product (sum one one) lg)) one
  halved-no_times lg l = let z : lg ≡ 0 = omega arith in rw z (halved-none one (E.reflexive one))

  pub scaled-by_one : (a : A) → same a (product a one)
  scaled-by_one a = E.symmetric _ _ (E.transitive _ _ _ (P.commutative a one) (R.identity a))
