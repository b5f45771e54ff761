-- Division of polynomials with remainder, up to a type's own equality.
use Rattle.std.proofs.Common.{◌≡◌, ℕ, suc, ◌+◌, ◌<◌, ◌≤◌, List, [], ◌∷◌, length, map, sym, ◌∙◌, ap, ap₂, arith}
use Rattle.std.proofs.lemmas.List.{get_or_past}
use Rattle.math_theory.specs.Coefficients.{coefficient, HaveSameCoefficients}
use Rattle.math_theory.specs.Division.{HasExactDegree, IsDivision, IsDividedDownTo}
use Rattle.math_theory.specs.Laws.{IsEquality, IsGroup, IsProduct, IsRing, IsField}
use Rattle.math_theory.specs.Rings.{CommutativeRing}
use Rattle.math_theory.proofs.classes.Classes.{Class, class, class_same, ring_of_classes, field_of_classes}
use Rattle.math_theory.proofs.classes.ClassesOfLists.{length-classes, coefficient-class, HaveSameCoefficients-from_classes}
use Rattle.math_theory.proofs.classes.ClassesOfProducts.{HasExactDegree-classes, IsDividedDownTo-classes, IsDividedDownTo-from_classes, IsDivision-classes}
use Rattle.math_theory.proofs.polynomials.Division.{division-begun, division-step, division-only}
use Rattle.math_theory.proofs.polynomials.Products.{IsZeroFrom}

module _ {A : Type 0} {same : A → A → Type 0} {zero_of : A} {sum : A → A → A} {negative : A → A} {product : A → A → A} {one : A}
    (E : IsEquality same) (G : IsGroup same zero_of sum negative) (P : IsProduct same product) (R : IsRing same sum product one) where
  abbrev C : CommutativeRing (Class E)
  C = ring_of_classes E G P R

  abbrev classes : List A → List (Class E)
  classes p = map (class E) p

  -- a list has no coefficient past its end
  pub IsZeroFrom-length : (p : List A) (n : ℕ) → length p ≤ n → IsZeroFrom C (classes p) n
  IsZeroFrom-length p n l i m = get_or_past (classes p) i C.zero (omega (arith, l, m, length-classes E p))

  pub division_begun-same : (i : ℕ) (p d : List A) → IsDividedDownTo same zero_of sum product i p d [] p
  division_begun-same i p d = IsDividedDownTo-from_classes E G P R i p d [] p (division-begun C i (classes p) (classes d))

  -- one step: what is left loses its last coefficient, and c times d is taken from the n before it
  pub division_step-same : (i n : ℕ) (p d q left left' : List A) (c : A)
      → HasExactDegree same zero_of d n → length left ≡ suc (i + n) → length left' ≡ i + n
      → same (product (coefficient zero_of d n) c) (coefficient zero_of left (i + n))
      → ((j : ℕ) → j < i → same (coefficient zero_of left' j) (coefficient zero_of left j))
      → ((j : ℕ) → j < n → same (coefficient zero_of left' (i + j)) (sum (coefficient zero_of left (i + j)) (negative (product (coefficient zero_of d j) c))))
      → IsDividedDownTo same zero_of sum product (suc i) p d q left → IsDividedDownTo same zero_of sum product i p d (c ∷ q) left'
  division_step-same i n p d q left left' c degree l l' leads low high h =
      IsDividedDownTo-from_classes E G P R i p d (c ∷ q) left'
      (division-step C i n (classes p) (classes d) (classes q) (classes left) (classes left') (class E c)
      (λ j m. coefficient-class E G P R d j ∙ class_same E _ _ (degree.above j (omega (arith, m))))
      (IsZeroFrom-length left (suc (i + n)) (omega (arith, l))) (IsZeroFrom-length left' (i + n) (omega (arith, l')))
      (ap (λ x. C.product x (class E c)) (coefficient-class E G P R d n) ∙ class_same E _ _ leads ∙ sym (coefficient-class E G P R left (i + n)))
      (λ j m. coefficient-class E G P R left' j ∙ class_same E _ _ (low j m) ∙ sym (coefficient-class E G P R left j))
      (λ j m. coefficient-class E G P R left' (i + j) ∙ class_same E _ _ (high j m)
      ∙ sym (ap₂ (λ x y. C.sum x (C.negative (C.product y (class E c)))) (coefficient-class E G P R left (i + j)) (coefficient-class E G P R d j)))
      (IsDividedDownTo-classes E G P R (suc i) p d q left h))

  module _ {inverse : A → A} (F : IsField same zero_of product one inverse) where
    -- quotient and remainder are the only ones
    pub division_only-same : (n : ℕ) (p d q r q' r' : List A) → HasExactDegree same zero_of d n
        → IsDivision same zero_of sum product n p d q r → IsDivision same zero_of sum product n p d q' r'
        → HaveSameCoefficients same zero_of q' q × HaveSameCoefficients same zero_of r' r
    division_only-same n p d q r q' r' degree h k =
        let both = division-only (field_of_classes E G P R F) n (classes p) (classes d) (classes q) (classes r) (classes q') (classes r')
        (HasExactDegree-classes E G P R d n degree) (IsDivision-classes E G P R n p d q r h) (IsDivision-classes E G P R n p d q' r' k) in
        (HaveSameCoefficients-from_classes E G P R q' q both.0, HaveSameCoefficients-from_classes E G P R r' r both.1)
