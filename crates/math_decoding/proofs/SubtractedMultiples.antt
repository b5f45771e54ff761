-- A multiple of a polynomial, moved up, taken from another: over the classes of the elements, coefficient by coefficient.
use Rattle.std.proofs.Common.{◌≡◌, ℕ, ◌+◌, ◌-◌, ◌<◌, ◌≤◌, List, [], ◌∷◌, length, map, inl, inr, refl, sym, ◌∙◌, ap, ap₂, subst, arith}
use Rattle.std.proofs.lemmas.Bool.{cases_lt}
use Rattle.std.proofs.lemmas.List.{get_or_past}
use Rattle.math_theory.specs.Coefficients.{coefficient, HaveSameCoefficients, polynomial_difference, polynomial_multiple}
use Rattle.math_theory.specs.Division.{moved_up}
use Rattle.math_theory.specs.Laws.{IsEquality, IsGroup, IsProduct, IsRing}
use Rattle.math_theory.specs.OverRing as OverRing
use Rattle.math_theory.specs.Rings.{CommutativeRing}
use Rattle.math_theory.specs.Values.{value}
use Rattle.math_theory.proofs.classes.Classes.{Class, class, class_same, same_class, ring_of_classes}
use Rattle.math_theory.proofs.classes.ClassesOfLists.{coefficient-class, value-class}
use Rattle.math_theory.proofs.classes.ClassesOfProducts.{polynomial_difference-class, polynomial_multiple-class, moved_up-class}
use Rattle.math_theory.proofs.polynomials.Coefficients.{coefficient-difference, coefficient-multiple, value-HaveSameCoefficients}
use Rattle.math_theory.proofs.polynomials.Division.{raised, raised-below, raised-above}
use Rattle.math_theory.proofs.polynomials.Values.{value-difference, value-multiple}
use Rattle.math_theory.proofs.rings.Normal.{ring, ◌⊖◌, ◌⊗◌, 𝟘, v0}

module _ {A : Type 0} {same : A → A → Type 0} {zero_of : A} {sum : A → A → A} {negative : A → A} {product : A → A → A} {one : A}
    (E : IsEquality same) (G : IsGroup same zero_of sum negative) (P : IsProduct same product) (R : IsRing same sum product one) where
  abbrev C : CommutativeRing (Class E)
  C = ring_of_classes E G P R

  abbrev classes : List A → List (Class E)
  classes p = map (class E) p

  -- the polynomial old less c times by, moved up
  abbrev less : List A → ℕ → List A → A → List A
  less old from by c = polynomial_difference sum negative old (moved_up zero_of from (polynomial_multiple product by c))

  -- its coefficient i
  less-class : (old : List A) (from : ℕ) (by : List A) (c : A) (i : ℕ)
      → class E (coefficient zero_of (less old from by c) i)
      ≡ C.sum (class E (coefficient zero_of old i)) (C.negative (coefficient C.zero (raised C from (OverRing.polynomial_multiple C (classes by) (class E c))) i))
  less-class old from by c i =
      sym (coefficient-class E G P R (less old from by c) i)
      ∙ ap (λ p. coefficient C.zero p i)
      (sym (ap (λ p. OverRing.polynomial_difference C (classes old) p) (ap (moved_up C.zero from) (polynomial_multiple-class E G P R by c)
      ∙ moved_up-class E G P R from (polynomial_multiple product by c))
      ∙ polynomial_difference-class E G P R old (moved_up zero_of from (polynomial_multiple product by c))))
      ∙ coefficient-difference C (classes old) (raised C from (OverRing.polynomial_multiple C (classes by) (class E c))) i
      ∙ ap (λ x. C.sum x (C.negative (coefficient C.zero (raised C from (OverRing.polynomial_multiple C (classes by) (class E c))) i))) (coefficient-class E G P R old i)

  -- what is taken at place from + t
  raised-class : (from : ℕ) (by : List A) (c : A) (t : ℕ)
      → coefficient C.zero (raised C from (OverRing.polynomial_multiple C (classes by) (class E c))) (from + t) ≡ class E (product (coefficient zero_of by t) c)
  raised-class from by c t =
      raised-above C from t (OverRing.polynomial_multiple C (classes by) (class E c)) ∙ coefficient-multiple C (classes by) (class E c) t
      ∙ ap (λ x. C.product x (class E c)) (coefficient-class E G P R by t)

  -- from the places to the polynomial
  pub subtracted : (from : ℕ) (old new by : List A) (c : A)
      → ((k : ℕ) → k < from → coefficient zero_of new k ≡ coefficient zero_of old k)
      → ((t : ℕ) → t < length by → same (coefficient zero_of new (from + t)) (sum (coefficient zero_of old (from + t)) (negative (product (coefficient zero_of by t) c))))
      → ((t : ℕ) → length by ≤ t → coefficient zero_of new (from + t) ≡ coefficient zero_of old (from + t))
      → HaveSameCoefficients same zero_of new (less old from by c)
  subtracted from old new by c before within after i =
      same_class E _ _
      (elim (cases_lt i from) [
        | inl l ↦ ap (class E) (before i l) ∙ nothing (class E (coefficient zero_of old i)) _ (raised-below C from i (OverRing.polynomial_multiple C (classes by) (class E c)) l)
        | inr g ↦ (let e : from + (i - from) ≡ i = omega (arith, g) in
            subst (λ i. class E (coefficient zero_of new i) ≡ C.sum (class E (coefficient zero_of old i)) (C.negative (coefficient C.zero (raised C from (OverRing.polynomial_multiple C (classes by) (class E c))) i))) e (at_place (i - from)))
      ]
      ∙ sym (less-class old from by c i))
    where
      nothing : (x y : Class E) → y ≡ C.zero → x ≡ C.sum x (C.negative y)
      nothing x y e = ring C (x ∷ []) v0 (v0 ⊖ 𝟘) refl ∙ ap (λ z. C.sum x (C.negative z)) (sym e)

      at_place : (t : ℕ) → class E (coefficient zero_of new (from + t))
          ≡ C.sum (class E (coefficient zero_of old (from + t))) (C.negative (coefficient C.zero (raised C from (OverRing.polynomial_multiple C (classes by) (class E c))) (from + t)))
      at_place t =
          elim (cases_lt t (length by)) [
            | inl l ↦ class_same E _ _ (within t l) ∙ ap (λ y. C.sum (class E (coefficient zero_of old (from + t))) (C.negative y)) (sym (raised-class from by c t))
            | inr g ↦ ap (class E) (after t g) ∙ nothing (class E (coefficient zero_of old (from + t))) _
                (raised-class from by c t ∙ ap (λ x. class E (product x c)) (get_or_past by t zero_of g) ∙ ring C (class E c ∷ []) (𝟘 ⊗ v0) 𝟘 refl)
          ]

  module _ (from : ℕ) (old new by : List A) (c : A) (h : HaveSameCoefficients same zero_of new (less old from by c)) where
    -- and back: below `from`, and from there on
    pub subtracted-below : (k : ℕ) → k < from → same (coefficient zero_of new k) (coefficient zero_of old k)
    subtracted-below k l =
        same_class E _ _
        (class_same E _ _ (h k) ∙ less-class old from by c k
        ∙ ap (λ y. C.sum (class E (coefficient zero_of old k)) (C.negative y)) (raised-below C from k (OverRing.polynomial_multiple C (classes by) (class E c)) l)
        ∙ ring C (class E (coefficient zero_of old k) ∷ []) (v0 ⊖ 𝟘) v0 refl)

    pub subtracted-from : (t : ℕ) → same (coefficient zero_of new (from + t)) (sum (coefficient zero_of old (from + t)) (negative (product (coefficient zero_of by t) c)))
    subtracted-from t =
        same_class E _ _
        (class_same E _ _ (h (from + t)) ∙ less-class old from by c (from + t)
        ∙ ap (λ y. C.sum (class E (coefficient zero_of old (from + t))) (C.negative y)) (raised-class from by c t))

    -- the same over the classes
    pub subtracted-classes : (i : ℕ) → coefficient C.zero (classes new) i
        ≡ C.sum (coefficient C.zero (classes old) i) (C.negative (coefficient C.zero (raised C from (OverRing.polynomial_multiple C (classes by) (class E c))) i))
    subtracted-classes i =
        coefficient-class E G P R new i ∙ class_same E _ _ (h i) ∙ less-class old from by c i
        ∙ ap (λ x. C.sum x (C.negative (coefficient C.zero (raised C from (OverRing.polynomial_multiple C (classes by) (class E c))) i))) (sym (coefficient-class E G P R old i))

  -- from a polynomial with the same coefficients
  pub less-respects : (from : ℕ) (old old' new by : List A) (c : A) → HaveSameCoefficients same zero_of old old' → HaveSameCoefficients same zero_of new (less old from by c)
      → HaveSameCoefficients same zero_of new (less old' from by c)
  less-respects from old old' new by c e h i =
      same_class E _ _
      (class_same E _ _ (h i) ∙ less-class old from by c i
      ∙ ap (λ x. C.sum x (C.negative (coefficient C.zero (raised C from (OverRing.polynomial_multiple C (classes by) (class E c))) i))) (class_same E _ _ (e i))
      ∙ sym (less-class old' from by c i))

  -- the value of what is left
  pub value-less : (r : A) (old new by : List A) (c : A) → HaveSameCoefficients same zero_of new (less old 0 by c)
      → class E (value zero_of sum product one r new)
      ≡ C.sum (class E (value zero_of sum product one r old)) (C.negative (C.product (class E (value zero_of sum product one r by)) (class E c)))
  value-less r old new by c h =
      sym (value-class E G P R r new)
      ∙ value-HaveSameCoefficients C (class E r) (classes new) (OverRing.polynomial_difference C (classes old) (OverRing.polynomial_multiple C (classes by) (class E c)))
      (λ i. subtracted-classes 0 old new by c h i ∙ sym (coefficient-difference C (classes old) (OverRing.polynomial_multiple C (classes by) (class E c)) i))
      ∙ value-difference C (class E r) (classes old) (OverRing.polynomial_multiple C (classes by) (class E c))
      ∙ ap₂ (λ x y. C.sum x (C.negative y)) (value-class E G P R r old)
      (value-multiple C (class E r) (classes by) (class E c) ∙ ap (λ x. C.product x (class E c)) (value-class E G P R r by))
