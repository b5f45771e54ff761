-- The weights of Lagrange's formula are the only ones, up to a type's own equality.
use Rattle.std.proofs.Common.{◌≡◌, ◌≢◌, ℕ, suc, ◌<◌, ◌≤◌, List, [], ◌∷◌, length, map, get_or, inl, inr, sym, ◌∙◌, ap, ap₂, subst, arith}
use Rattle.std.proofs.lemmas.Bool.{cases_eq}
use Rattle.std.proofs.lemmas.List.{ext_get_or, get_or_default}
use Rattle.std.specs.List.{All, AllZip, remove}
use mathlib.Core.HLevel.{Π_prop}
use Rattle.math_theory.specs.Interpolation.{AreApart, SomeAreSame, IsOneAt, AreWeightsAt, lagrange_weights, values_at, weight_divisor}
use Rattle.math_theory.specs.Laws.{IsEquality, IsGroup, IsProduct, IsRing, IsField}
use Rattle.math_theory.specs.OverRing as OverRing
use Rattle.math_theory.specs.Rings.{Field}
use Rattle.math_theory.proofs.classes.Classes.{Class, Class-set, class, class_same, same_class, field_of_classes}
use Rattle.math_theory.specs.RootProducts.{root_product}
use Rattle.math_theory.proofs.classes.ClassesOfLists.{of_classes, length-classes, AreDistinct-classes, remove-classes, value-class, coefficient-class, values_at-class, weighted_sum-class, root_product-class, lagrange_weights-class}
use Rattle.math_theory.proofs.interpolation.Interpolation.{length-lagrange_weights, get_or-lagrange_weights, lagrange_weights-one, lagrange_weights-zero, lagrange_weights-give, weights-lagrange_weights}
use Rattle.math_theory.proofs.rings.RingLaws.{product-zero}
use Rattle.math_theory.proofs.interpolation.WeightQuotients.{divisor-nonzero, lagrange_weight-quotient, root_product-of_repeated}

-- related in each place
AllZip-from_places : {A : Type 0} (R : A → A → Type 0) (d : A) (xs ys : List A) → length xs ≡ length ys → ((i : ℕ) → i < length xs → R (get_or xs i d) (get_or ys i d)) → AllZip R xs ys
AllZip-from_places R d [] [] n h = tt
AllZip-from_places R d [] (y ∷ ys) n h = absurd (omega arith)
AllZip-from_places R d (x ∷ xs) [] n h = absurd (omega arith)
AllZip-from_places R d (x ∷ xs) (y ∷ ys) n h = (h 0 (omega arith), AllZip-from_places R d xs ys (omega arith) (λ i l. h (suc i) (omega arith)))

module _ {A : Type 0} {same : A → A → Type 0} {zero : A} {sum : A → A → A} {negative : A → A} {product : A → A → A} {one : A} {inverse : A → A}
    (E : IsEquality same) (G : IsGroup same zero sum negative) (P : IsProduct same product) (R : IsRing same sum product one) (F : IsField same zero product one inverse) where
  abbrev classes : Field (Class E)
  classes = field_of_classes E G P R F

  abbrev classes_of : List A → List (Class E)
  classes_of xs = map (class E) xs

  AreWeightsAt-classes : (x : A) (points weights : List A) → AreWeightsAt same zero sum product one x points weights
      → OverRing.AreWeightsAt classes.ring (class E x) (classes_of points) (classes_of weights)
  AreWeightsAt-classes x points weights W = record {
    lengths = length-classes E points ∙ W.lengths ∙ sym (length-classes E weights);
    give =
        of_classes E (λ a. length a ≤ length (classes_of points)
        → OverRing.weighted_sum classes.ring (OverRing.values_at classes.ring (classes_of points) a) (classes_of weights) ≡ OverRing.value classes.ring (class E x) a)
        (λ a. Π_prop (λ l. Class-set E _ _))
        (λ a l. ap (λ vs. OverRing.weighted_sum classes.ring vs (classes_of weights)) (values_at-class E G P R points a) ∙ weighted_sum-class E G P R (values_at zero sum product one points a) weights
        ∙ class_same E _ _ (W.give a (omega (arith, l, length-classes E a, length-classes E points))) ∙ sym (value-class E G P R x a));
  }

  AreWeightsAt-from_classes : (x : A) (points weights : List A) → OverRing.AreWeightsAt classes.ring (class E x) (classes_of points) (classes_of weights)
      → AreWeightsAt same zero sum product one x points weights
  AreWeightsAt-from_classes x points weights W = record {
    lengths = sym (length-classes E points) ∙ W.lengths ∙ length-classes E weights;
    give = λ a l. same_class E _ _
        (sym (ap (λ vs. OverRing.weighted_sum classes.ring vs (classes_of weights)) (values_at-class E G P R points a) ∙ weighted_sum-class E G P R (values_at zero sum product one points a) weights)
        ∙ W.give (classes_of a) (omega (arith, l, length-classes E a, length-classes E points)) ∙ value-class E G P R x a);
  }

  -- weights at points that are apart are those of Lagrange's formula
  pub weights_once-same : (x : A) (points weights : List A) → AreApart same points → AreWeightsAt same zero sum product one x points weights
      → (i : ℕ) → same (get_or weights i zero) (get_or (lagrange_weights zero sum negative product one inverse x points) i zero)
  weights_once-same x points weights d W i =
      same_class E _ _
      (sym (coefficient-class E G P R weights i)
      ∙ ap (λ ws. get_or ws i classes.zero) (weights-lagrange_weights classes (class E x) (classes_of points) (classes_of weights)
      (AreDistinct-classes E zero points d) (AreWeightsAt-classes x points weights W) ∙ lagrange_weights-class E G P R F x points)
      ∙ coefficient-class E G P R (lagrange_weights zero sum negative product one inverse x points) i)

  -- any two lists of weights are same place by place
  pub weights_same : (x : A) (points weights others : List A) → AreApart same points → AreWeightsAt same zero sum product one x points weights
      → AreWeightsAt same zero sum product one x points others → AllZip same others weights
  weights_same x points weights others d W V =
      AllZip-from_places same zero others weights (sym V.lengths ∙ W.lengths)
      (λ i l. E.transitive _ _ _ (weights_once-same x points others d V i) (E.symmetric _ _ (weights_once-same x points weights d W i)))

  -- what is Lagrange's formula on the classes are weights
  weights_by_formula : (x : A) (points weights : List A) → AreApart same points → length weights ≡ length points
      → ((i : ℕ) → i < length points → get_or (classes_of weights) i classes.zero ≡ get_or (OverRing.lagrange_weights classes (class E x) (classes_of points)) i classes.zero)
      → AreWeightsAt same zero sum product one x points weights
  weights_by_formula x points weights d n h =
      let X = class E x in
      let e : classes_of weights ≡ OverRing.lagrange_weights classes X (classes_of points) =
      ext_get_or classes.zero (classes_of weights) (OverRing.lagrange_weights classes X (classes_of points))
      (length-classes E weights ∙ n ∙ sym (length-classes E points) ∙ sym (length-lagrange_weights classes X (classes_of points)))
      (λ i l. h i (omega (arith, l, n, length-classes E weights))) in
      AreWeightsAt-from_classes x points weights
      (subst (λ ws. OverRing.AreWeightsAt classes.ring X (classes_of points) ws) (sym e) (lagrange_weights-give classes X (classes_of points) (AreDistinct-classes E zero points d)))

  -- where x is one of some points that are apart, the weights are one there and zero elsewhere
  pub weights_at_place : (x : A) (points weights : List A) (k : ℕ) → AreApart same points → k < length points → same (get_or points k zero) x → length weights ≡ length points
      → IsOneAt same zero one k weights → AreWeightsAt same zero sum product one x points weights
  weights_at_place x points weights k d l s n h =
      let points' = classes_of points in
      let apart = AreDistinct-classes E zero points d in
      let count : length points' ≡ length points = length-classes E points in
      let at : get_or points' k classes.zero ≡ class E x = coefficient-class E G P R points k ∙ class_same E _ _ s in
      weights_by_formula x points weights d n
      (λ i m. coefficient-class E G P R weights i
      ∙ subst (λ r. class E (get_or weights i zero) ≡ get_or (OverRing.lagrange_weights classes r points') i classes.zero) at
      (elim (cases_eq i k) [
        | inl e ↦ subst (λ j. class E (get_or weights j zero) ≡ get_or (OverRing.lagrange_weights classes (get_or points' k classes.zero) points') j classes.zero) (sym e)
            (class_same E _ _ h.0 ∙ sym (lagrange_weights-one classes points' k apart (omega (arith, l, count))))
        | inr o ↦ class_same E _ _ (h.1 i (omega (arith, m, n)) o) ∙ sym (lagrange_weights-zero classes points' i k (omega (arith, m, count)) (omega (arith, l, count)) o)
      ]))

  abbrev divisor_at : A → List A → ℕ → A
  divisor_at x points k = weight_divisor zero sum negative product one x points k

  divisor-class : (x : A) (points : List A) (k : ℕ)
      → classes.product (classes.sum (class E x) (classes.negative (get_or (classes_of points) k classes.zero)))
      (OverRing.root_product classes.ring (get_or (classes_of points) k classes.zero) (remove (classes_of points) k))
      ≡ class E (divisor_at x points k)
  divisor-class x points k =
      let p = get_or points k zero in
      ap₂ (λ u v. classes.product (classes.sum (class E x) (classes.negative u)) (OverRing.root_product classes.ring u v)) (coefficient-class E G P R points k) (remove-classes E points k)
      ∙ ap (classes.product (class E (sum x (negative p)))) (root_product-class E G P R p (remove points k))

  outside-class : (x : A) (points : List A) (k : ℕ) → All (λ p. ¬ (same p x)) points → k < length points → class E x ≢ get_or (classes_of points) k classes.zero
  outside-class x points k outside l e = outside k zero l (E.symmetric _ _ (same_class E _ _ (e ∙ coefficient-class E G P R points k)))

  -- at points that are apart no divisor is zero, where x is none of them
  pub divisors_nonzero : (x : A) (points : List A) → AreApart same points → All (λ p. ¬ (same p x)) points → (k : ℕ) → k < length points → ¬ (same (divisor_at x points k) zero)
  divisors_nonzero x points d outside k l e =
      divisor-nonzero classes (class E x) (classes_of points) k (AreDistinct-classes E zero points d) (omega (arith, l, length-classes E points)) (outside-class x points k outside l)
      (divisor-class x points k ∙ class_same E _ _ e)

  -- where x is none of the points, what gives the product of all differences of x, times the divisor of its place, is the weight
  pub weights_by_quotients : (x : A) (points weights : List A) → AreApart same points → All (λ p. ¬ (same p x)) points → length weights ≡ length points
      → ((k : ℕ) → k < length points → same (product (get_or weights k zero) (divisor_at x points k)) (root_product sum negative product one x points))
      → AreWeightsAt same zero sum product one x points weights
  weights_by_quotients x points weights d outside n h =
      let points' = classes_of points in
      let apart = AreDistinct-classes E zero points d in
      let count : length points' ≡ length points = length-classes E points in
      weights_by_formula x points weights d n
      (λ k l. let m : k < length points' = omega (arith, l, count) in
      lagrange_weight-quotient classes (class E x) points' k (get_or (classes_of weights) k classes.zero) apart m
      (outside-class x points k outside l)
      (ap₂ classes.product (coefficient-class E G P R weights k) (divisor-class x points k) ∙ class_same E _ _ (h k l) ∙ sym (root_product-class E G P R x points))
      ∙ sym (get_or-lagrange_weights classes (class E x) points' k classes.zero m))

  -- where two points are same, a divisor is zero
  pub divisor_of_repeated : (x : A) (points : List A) → SomeAreSame same points → (k : ℕ) × (k < length points) × same (divisor_at x points k) zero
  divisor_of_repeated x points (i, j, d, l, m, s) =
      let points' = classes_of points in
      let count : length points' ≡ length points = length-classes E points in
      let z = classes.zero in
      let equal : get_or points' i z ≡ get_or points' j z =
      coefficient-class E G P R points i ∙ ap (class E) (get_or_default points i zero d (omega arith)) ∙ class_same E _ _ s
      ∙ ap (class E) (get_or_default points j d zero m) ∙ sym (coefficient-class E G P R points j) in (
        i,
        omega arith,
        same_class E _ _ (sym (divisor-class x points i)
            ∙ ap (classes.product (classes.sum (class E x) (classes.negative (get_or points' i z)))) (root_product-of_repeated classes.ring points' i j z l (omega (arith, m, count)) equal)
            ∙ product-zero classes.ring (classes.sum (class E x) (classes.negative (get_or points' i z)))),
      )
