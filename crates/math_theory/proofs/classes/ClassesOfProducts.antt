-- From polynomials to polynomials over the classes: sums, products, degrees and division go along.
use Rattle.std.proofs.Common.{◌≡◌, ℕ, zero, suc, List, [], ◌∷◌, map, refl, sym, ◌∙◌, ap, ap₂, subst}
use Rattle.math_theory.specs.Coefficients.{HaveSameCoefficients, polynomial_sum, polynomial_negative, polynomial_difference, polynomial_multiple, polynomial_product}
use Rattle.math_theory.specs.Division.{HasExactDegree, IsDivision, moved_up, IsDividedDownTo}
use Rattle.math_theory.specs.Laws.{IsEquality, IsGroup, IsProduct, IsRing}
use Rattle.math_theory.specs.OverRing as OverRing
use Rattle.math_theory.specs.Rings.{CommutativeRing}
use Rattle.math_theory.proofs.classes.Classes.{Class, class, class_same, same_class, ring_of_classes}
use Rattle.math_theory.proofs.classes.ClassesOfLists.{coefficient-class, HaveSameCoefficients-from_classes}

module _ {A : Type 0} {same : A → A → Type 0} {zero_of : A} {sum : A → A → A} {negative : A → A} {product : A → A → A} {one : A}
    (E : IsEquality same) (G : IsGroup same zero_of sum negative) (P : IsProduct same product) (R : IsRing same sum product one) where
  abbrev C : CommutativeRing (Class E)
  C = ring_of_classes E G P R

  abbrev classes : List A → List (Class E)
  classes p = map (class E) p

  pub polynomial_sum-class : (p q : List A) → OverRing.polynomial_sum C (classes p) (classes q) ≡ classes (polynomial_sum sum p q)
  polynomial_sum-class [] q = refl
  polynomial_sum-class (a ∷ p) [] = refl
  polynomial_sum-class (a ∷ p) (b ∷ q) = ap (λ r. class E (sum a b) ∷ r) (polynomial_sum-class p q)

  pub polynomial_negative-class : (p : List A) → OverRing.polynomial_negative C (classes p) ≡ classes (polynomial_negative negative p)
  polynomial_negative-class [] = refl
  polynomial_negative-class (a ∷ p) = ap (λ r. class E (negative a) ∷ r) (polynomial_negative-class p)

  pub polynomial_difference-class : (p q : List A) → OverRing.polynomial_difference C (classes p) (classes q) ≡ classes (polynomial_difference sum negative p q)
  polynomial_difference-class p q = ap (OverRing.polynomial_sum C (classes p)) (polynomial_negative-class q) ∙ polynomial_sum-class p (polynomial_negative negative q)

  pub polynomial_multiple-class : (p : List A) (s : A) → OverRing.polynomial_multiple C (classes p) (class E s) ≡ classes (polynomial_multiple product p s)
  polynomial_multiple-class [] s = refl
  polynomial_multiple-class (a ∷ p) s = ap (λ r. class E (product a s) ∷ r) (polynomial_multiple-class p s)

  pub polynomial_product-class : (p q : List A) → OverRing.polynomial_product C (classes p) (classes q) ≡ classes (polynomial_product zero_of sum product p q)
  polynomial_product-class [] q = refl
  polynomial_product-class (a ∷ p) q =
      ap₂ (OverRing.polynomial_sum C) (polynomial_multiple-class q a) (ap (λ r. class E zero_of ∷ r) (polynomial_product-class p q))
      ∙ polynomial_sum-class (polynomial_multiple product q a) (zero_of ∷ polynomial_product zero_of sum product p q)

  pub HaveSameCoefficients-classes : (p q : List A) → HaveSameCoefficients same zero_of p q → OverRing.HaveSameCoefficients C (classes p) (classes q)
  HaveSameCoefficients-classes p q h i = coefficient-class E G P R p i ∙ class_same E _ _ (h i) ∙ sym (coefficient-class E G P R q i)

  pub HasExactDegree-classes : (p : List A) (n : ℕ) → HasExactDegree same zero_of p n → OverRing.HasExactDegree C (classes p) n
  HasExactDegree-classes p n h = record {
    leading = λ e. h.leading (same_class E _ _ (sym (coefficient-class E G P R p n) ∙ e));
    above = λ i l. coefficient-class E G P R p i ∙ class_same E _ _ (h.above i l);
  }

  pub HasExactDegree-from_classes : (p : List A) (n : ℕ) → OverRing.HasExactDegree C (classes p) n → HasExactDegree same zero_of p n
  HasExactDegree-from_classes p n h = record {
    leading = λ e. h.leading (coefficient-class E G P R p n ∙ class_same E _ _ e);
    above = λ i l. same_class E _ _ (sym (coefficient-class E G P R p i) ∙ h.above i l);
  }

  pub moved_up-class : (i : ℕ) (p : List A) → moved_up C.zero i (classes p) ≡ classes (moved_up zero_of i p)
  moved_up-class zero p = refl
  moved_up-class (suc i) p = ap (λ r. class E zero_of ∷ r) (moved_up-class i p)

  divided-class : (i : ℕ) (d q left : List A)
      → OverRing.polynomial_sum C (moved_up C.zero i (OverRing.polynomial_product C (classes q) (classes d))) (classes left)
      ≡ classes (polynomial_sum sum (moved_up zero_of i (polynomial_product zero_of sum product q d)) left)
  divided-class i d q left =
      ap (λ p. OverRing.polynomial_sum C p (classes left)) (ap (moved_up C.zero i) (polynomial_product-class q d) ∙ moved_up-class i (polynomial_product zero_of sum product q d))
      ∙ polynomial_sum-class (moved_up zero_of i (polynomial_product zero_of sum product q d)) left

  pub IsDividedDownTo-classes : (i : ℕ) (p d q left : List A) → IsDividedDownTo same zero_of sum product i p d q left
      → OverRing.IsDividedDownTo C i (classes p) (classes d) (classes q) (classes left)
  IsDividedDownTo-classes i p d q left h =
      subst (OverRing.HaveSameCoefficients C (classes p)) (sym (divided-class i d q left)) (HaveSameCoefficients-classes p _ h)

  pub IsDividedDownTo-from_classes : (i : ℕ) (p d q left : List A) → OverRing.IsDividedDownTo C i (classes p) (classes d) (classes q) (classes left)
      → IsDividedDownTo same zero_of sum product i p d q left
  IsDividedDownTo-from_classes i p d q left h =
      HaveSameCoefficients-from_classes E G P R p _ (subst (OverRing.HaveSameCoefficients C (classes p)) (divided-class i d q left) h)

  pub IsDivision-classes : (n : ℕ) (p d q r : List A) → IsDivision same zero_of sum product n p d q r
      → OverRing.IsDivision C n (classes p) (classes d) (classes q) (classes r)
  IsDivision-classes n p d q r h = record {
    gives = IsDividedDownTo-classes 0 p d q r h.gives;
    below = λ i l. coefficient-class E G P R r i ∙ class_same E _ _ (h.below i l);
  }
