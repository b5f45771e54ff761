-- Unique decoding, up to a type's own equality.
use Rattle.std.proofs.Common.{◌≡◌, ℕ, suc, ◌+◌, ◌-◌, ◌≤◌, List, length, map, get_or, sym, ◌∙◌, ap, ap₂, subst, arith}
use Rattle.math_theory.specs.Coefficients.{HaveSameCoefficients, polynomial_difference, polynomial_product}
use Rattle.math_theory.specs.Decoding.{AreWrongPlaces, IsWithinRadius, IsKept}
use Rattle.math_theory.specs.Division.{HasExactDegree, IsDivision}
use Rattle.math_theory.specs.Interpolation.{AreApart}
use Rattle.math_theory.specs.Laws.{IsEquality, IsGroup, IsProduct, IsRing, IsField}
use Rattle.math_theory.specs.OverRing as OverRing
use Rattle.math_theory.specs.Rings.{Field}
use Rattle.math_theory.specs.Values.{value}
use Rattle.math_theory.proofs.classes.Classes.{Class, class, class_same, same_class, field_of_classes}
use Rattle.math_theory.proofs.classes.ClassesOfLists.{length-classes, coefficient-class, value-class, AreDistinct-classes, HaveSameCoefficients-from_classes}
use Rattle.math_theory.proofs.classes.ClassesOfProducts.{polynomial_product-class, polynomial_difference-class, HaveSameCoefficients-classes, HasExactDegree-classes, HasExactDegree-from_classes, IsDivision-classes}
use Rattle.math_theory.proofs.decoding.Decoding.{IsKept-step, degree-step, decoding-found, decoding-few, decoding-once}
use Rattle.math_theory.proofs.polynomials.CarriedDivision.{IsZeroFrom-length}

module _ {A : Type 0} {same : A → A → Type 0} {zero_of : A} {sum : A → A → A} {negative : A → A} {product : A → A → A} {one : A} {inverse : A → A}
    (E : IsEquality same) (G : IsGroup same zero_of sum negative) (P : IsProduct same product) (R : IsRing same sum product one) (F : IsField same zero_of product one inverse) where
  abbrev C : Field (Class E)
  C = field_of_classes E G P R F

  abbrev classes : List A → List (Class E)
  classes p = map (class E) p

  abbrev point_value : List A → ℕ → List A → A
  point_value points i p = value zero_of sum product one (get_or points i zero_of) p

  point_value-class : (points : List A) (i : ℕ) (p : List A)
      → OverRing.value C.ring (get_or (classes points) i C.zero) (classes p) ≡ class E (point_value points i p)
  point_value-class points i p = ap (λ x. OverRing.value C.ring x (classes p)) (coefficient-class E G P R points i) ∙ value-class E G P R (get_or points i zero_of) p

  IsKept-classes : (points values r v : List A) → IsKept same zero_of sum product one points values r v
      → OverRing.IsKept C.ring (classes points) (classes values) (classes r) (classes v)
  IsKept-classes points values r v h i l =
      point_value-class points i r ∙ class_same E _ _ (h i (omega (arith, l, length-classes E points)))
      ∙ sym (ap₂ C.product (point_value-class points i v) (coefficient-class E G P R values i))

  IsKept-from_classes : (points values r v : List A) → OverRing.IsKept C.ring (classes points) (classes values) (classes r) (classes v)
      → IsKept same zero_of sum product one points values r v
  IsKept-from_classes points values r v h i l =
      same_class E _ _
      (sym (point_value-class points i r) ∙ h i (omega (arith, l, length-classes E points))
      ∙ ap₂ C.product (point_value-class points i v) (coefficient-class E G P R values i))

  IsWithinRadius-classes : (points values : List A) (count : ℕ) (a : List A) → IsWithinRadius same zero_of sum product one points values count a
      → OverRing.IsWithinRadius C.ring (classes points) (classes values) count (classes a)
  IsWithinRadius-classes points values count a (short, places, few, agree) = (
    omega (arith, short, length-classes E a),
    places,
    omega (arith, few, length-classes E points),
    λ i l n. point_value-class points i a ∙ class_same E _ _ (agree i (omega (arith, l, length-classes E points)) n) ∙ sym (coefficient-class E G P R values i),
  )

  factor-class : (v q v' v'' : List A) → HaveSameCoefficients same zero_of v'' (polynomial_difference sum negative v (polynomial_product zero_of sum product q v'))
      → OverRing.HaveSameCoefficients C.ring (classes v'') (OverRing.polynomial_difference C.ring (classes v) (OverRing.polynomial_product C.ring (classes q) (classes v')))
  factor-class v q v' v'' h =
      subst (OverRing.HaveSameCoefficients C.ring (classes v''))
      (sym (ap (OverRing.polynomial_difference C.ring (classes v)) (polynomial_product-class E G P R q v') ∙ polynomial_difference-class E G P R v (polynomial_product zero_of sum product q v')))
      (HaveSameCoefficients-classes E G P R v'' _ h)

  pub IsKept_step-same : (points values r v r' v' q r'' v'' : List A) (n : ℕ)
      → IsKept same zero_of sum product one points values r v → IsKept same zero_of sum product one points values r' v' → IsDivision same zero_of sum product n r r' q r''
      → HaveSameCoefficients same zero_of v'' (polynomial_difference sum negative v (polynomial_product zero_of sum product q v'))
      → IsKept same zero_of sum product one points values r'' v''
  IsKept_step-same points values r v r' v' q r'' v'' n h h' d e =
      IsKept-from_classes points values r'' v''
      (IsKept-step C.ring (classes points) (classes values) (classes r) (classes v) (classes r') (classes v') (classes q) (classes r'') (classes v'') n
      (IsKept-classes points values r v h) (IsKept-classes points values r' v' h') (IsDivision-classes E G P R n r r' q r'' d) (factor-class v q v' v'' e))

  pub degree_step-same : (a b s : ℕ) (r r' r'' q v v' v'' : List A) → b ≤ a → HasExactDegree same zero_of r a → HasExactDegree same zero_of r' b
      → IsDivision same zero_of sum product b r r' q r'' → length q ≤ suc (a - b) → HasExactDegree same zero_of v' s → length v ≤ s
      → HaveSameCoefficients same zero_of v'' (polynomial_difference sum negative v (polynomial_product zero_of sum product q v'))
      → HasExactDegree same zero_of v'' ((a - b) + s)
  degree_step-same a b s r r' r'' q v v' v'' l degree degree' h short factor before e =
      HasExactDegree-from_classes E G P R v'' ((a - b) + s)
      (degree-step C a b s (classes r) (classes r') (classes r'') (classes q) (classes v) (classes v') (classes v'') l
      (HasExactDegree-classes E G P R r a degree) (HasExactDegree-classes E G P R r' b degree') (IsDivision-classes E G P R b r r' q r'' h)
      (IsZeroFrom-length E G P R q (suc (a - b)) short) (HasExactDegree-classes E G P R v' s factor) (IsZeroFrom-length E G P R v s before)
      (factor-class v q v' v'' e))

  product-to : (r q v : List A) → OverRing.HaveSameCoefficients C.ring (classes r) (OverRing.polynomial_product C.ring (classes q) (classes v))
      → HaveSameCoefficients same zero_of r (polynomial_product zero_of sum product q v)
  product-to r q v h =
      HaveSameCoefficients-from_classes E G P R r _ (subst (OverRing.HaveSameCoefficients C.ring (classes r)) (polynomial_product-class E G P R q v) h)

  product-of : (r q v : List A) → HaveSameCoefficients same zero_of r (polynomial_product zero_of sum product q v)
      → OverRing.HaveSameCoefficients C.ring (classes r) (OverRing.polynomial_product C.ring (classes q) (classes v))
  product-of r q v h =
      subst (OverRing.HaveSameCoefficients C.ring (classes r)) (sym (polynomial_product-class E G P R q v)) (HaveSameCoefficients-classes E G P R r _ h)

  pub decoding_found-same : (points values r v g : List A) (count : ℕ) → AreApart same points → IsKept same zero_of sum product one points values r v
      → length r + length r ≤ suc (length points + count) → length v + length v + count ≤ suc (suc (length points))
      → IsWithinRadius same zero_of sum product one points values count g → HaveSameCoefficients same zero_of r (polynomial_product zero_of sum product g v)
  decoding_found-same points values r v g count apart kept short_r short_v h =
      product-to r g v
      (decoding-found C (classes points) (classes values) (classes r) (classes v) (classes g) count (AreDistinct-classes E zero_of points apart)
      (IsKept-classes points values r v kept) (omega (arith, short_r, length-classes E r, length-classes E points))
      (omega (arith, short_v, length-classes E v, length-classes E points)) (IsWithinRadius-classes points values count g h))

  pub decoding_few-same : (points values r v f : List A) (wrong : List ℕ) (n : ℕ) → AreApart same points → IsKept same zero_of sum product one points values r v
      → HasExactDegree same zero_of v n → HaveSameCoefficients same zero_of r (polynomial_product zero_of sum product f v)
      → AreWrongPlaces same zero_of sum product one points values f wrong → length wrong ≤ length v - 1
  decoding_few-same points values r v f wrong n apart kept degree e w =
      omega (
        arith,
        length-classes E v,
        decoding-few C (classes points) (classes values) (classes r) (classes v) (classes f) wrong n (AreDistinct-classes E zero_of points apart)
            (IsKept-classes points values r v kept) (HasExactDegree-classes E G P R v n degree) (product-of r f v e) w.rising
            (λ k d l. omega (arith, w.below k d l, length-classes E points))
            (λ k d l z. w.differ k d l (same_class E _ _ (sym (point_value-class points (get_or wrong k d) f) ∙ z ∙ coefficient-class E G P R values (get_or wrong k d)))),
      )

  pub decoding_once-same : (points values g f : List A) (count : ℕ) → AreApart same points → count ≤ length points
      → IsWithinRadius same zero_of sum product one points values count f → IsWithinRadius same zero_of sum product one points values count g
      → HaveSameCoefficients same zero_of g f
  decoding_once-same points values g f count apart l h k =
      HaveSameCoefficients-from_classes E G P R g f
      (decoding-once C (classes points) (classes values) (classes g) (classes f) count (AreDistinct-classes E zero_of points apart) (omega (arith, l, length-classes E points))
      (IsWithinRadius-classes points values count f h) (IsWithinRadius-classes points values count g k))
