-- A step of Euclid's algorithm, and the products that it makes.
use Rattle.std.proofs.Common.{◌≡◌, ℕ, ◌+◌, ◌<◌, List, [], ◌∷◌, ◌++◌, length, map, take, get_or, refl, sym, ◌∙◌, ap, arith}
use Rattle.std.proofs.lemmas.List.{take_more, length-take-le}
use Rattle.std.proofs.lemmas.List as Lists
use Rattle.math_theory.specs.Coefficients.{coefficient, HaveSameCoefficients, polynomial_difference, polynomial_multiple, polynomial_product}
use Rattle.math_theory.specs.Division.{moved_up}
use Rattle.math_theory.specs.Laws.{IsEquality, IsGroup, IsProduct, IsRing}
use Rattle.math_theory.specs.OverRing as OverRing
use Rattle.math_theory.specs.Rings.{CommutativeRing}
use Rattle.math_theory.proofs.classes.Classes.{Class, class, class_same, same_class, ring_of_classes}
use Rattle.math_theory.proofs.classes.ClassesOfLists.{coefficient-class, length-classes}
use Rattle.math_theory.proofs.classes.ClassesOfProducts.{polynomial_product-class, polynomial_difference-class}
use Rattle.math_theory.proofs.polynomials.Coefficients.{coefficient-difference}
use Rattle.math_theory.proofs.polynomials.Division.{product-pushed, raised}
use Rattle.math_theory.proofs.rings.Normal.{ring, ◌⊕◌, ◌⊖◌, 𝟘, v0, v1, v2}
use Rattle.math_decoding.proofs.SubtractedMultiples.{subtracted-classes}

module _ {A : Type 0} {same : A → A → Type 0} {zero_of : A} {sum : A → A → A} {negative : A → A} {product : A → A → A} {one : A}
    (E : IsEquality same) (G : IsGroup same zero_of sum negative) (P : IsProduct same product) (R : IsRing same sum product one) where
  abbrev C : CommutativeRing (Class E)
  C = ring_of_classes E G P R

  abbrev classes : List A → List (Class E)
  classes p = map (class E) p

  abbrev less_product : List A → List A → List A → List A
  less_product p q d = polynomial_difference sum negative p (polynomial_product zero_of sum product q d)

  less_product-class : (p q d : List A) (i : ℕ)
      → class E (coefficient zero_of (less_product p q d) i) ≡ C.sum (class E (coefficient zero_of p i)) (C.negative (coefficient C.zero (OverRing.polynomial_product C (classes q) (classes d)) i))
  less_product-class p q d i =
      sym (coefficient-class E G P R (less_product p q d) i)
      ∙ ap (λ p. coefficient C.zero p i) (sym (ap (OverRing.polynomial_difference C (classes p)) (polynomial_product-class E G P R q d)
      ∙ polynomial_difference-class E G P R p (polynomial_product zero_of sum product q d)))
      ∙ coefficient-difference C (classes p) (OverRing.polynomial_product C (classes q) (classes d)) i
      ∙ ap (λ x. C.sum x (C.negative (coefficient C.zero (OverRing.polynomial_product C (classes q) (classes d)) i))) (coefficient-class E G P R p i)

  -- before the first coefficient of q
  pub less_product-begun : (out p d : List A) → HaveSameCoefficients same zero_of out p → HaveSameCoefficients same zero_of out (less_product p [] d)
  less_product-begun out p d h i =
      same_class E _ _ (class_same E _ _ (h i) ∙ ring C (class E (coefficient zero_of p i) ∷ []) v0 (v0 ⊖ 𝟘) refl ∙ sym (less_product-class p [] d i))

  -- one coefficient of q more
  pub less_product-next : (j : ℕ) (p q d out new : List A) (c : A) → j < length q → c ≡ get_or q j c → HaveSameCoefficients same zero_of out (less_product p (take j q) d)
      → HaveSameCoefficients same zero_of new (polynomial_difference sum negative out (moved_up zero_of j (polynomial_multiple product d c)))
      → HaveSameCoefficients same zero_of new (less_product p (take (j + 1) q) d)
  less_product-next j p q d out new c l e h k i =
      let some = classes (take j q) in
      let count : length some ≡ j = length-classes E (take j q) ∙ length-take-le j q (omega (arith, l)) in
      let taken = coefficient C.zero (raised C j (OverRing.polynomial_multiple C (classes d) (class E c))) i in
      let so_far = coefficient C.zero (OverRing.polynomial_product C some (classes d)) i in
      let more : coefficient C.zero (OverRing.polynomial_product C (classes (take (j + 1) q)) (classes d)) i ≡ C.sum so_far taken =
      ap (λ q. coefficient C.zero (OverRing.polynomial_product C q (classes d)) i) (ap classes (take_more q j c l ∙ ap (λ y. take j q ++ (y ∷ [])) (sym e))
      ∙ Lists.map-append (class E) (take j q) (c ∷ []))
      ∙ product-pushed C some (classes d) (class E c) i
      ∙ ap (λ n. C.sum so_far (coefficient C.zero (raised C n (OverRing.polynomial_multiple C (classes d) (class E c))) i)) count in
      same_class E _ _
      (sym (coefficient-class E G P R new i) ∙ subtracted-classes E G P R j out new d c k i
      ∙ ap (λ x. C.sum x (C.negative taken)) (coefficient-class E G P R out i ∙ class_same E _ _ (h i) ∙ less_product-class p (take j q) d i)
      ∙ ring C (class E (coefficient zero_of p i) ∷ so_far ∷ taken ∷ []) ((v0 ⊖ v1) ⊖ v2) (v0 ⊖ (v1 ⊕ v2)) refl
      ∙ ap (λ x. C.sum (class E (coefficient zero_of p i)) (C.negative x)) (sym more)
      ∙ sym (less_product-class p (take (j + 1) q) d i))
