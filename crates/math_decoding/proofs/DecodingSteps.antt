-- From remainders to the decoded polynomial.
use Rattle.std.proofs.Common.{◌≡◌, ℕ, suc, ◌+◌, ◌-◌, ◌<◌, ◌≤◌, List, [], ◌∷◌, length, map, get_or, refl, sym, ◌∙◌, ap, subst, arith}
use Rattle.std.proofs.lemmas.List.{get_or_past}
use Rattle.math_theory.specs.Coefficients.{coefficient, HaveSameCoefficients, IsZeroPolynomial, polynomial_sum, polynomial_difference, polynomial_product}
use Rattle.math_theory.specs.Decoding.{AreWrongPlaces, IsWithinRadius, IsKept}
use Rattle.math_theory.specs.Division.{HasExactDegree, IsDivision}
use Rattle.math_theory.specs.Interpolation.{AreApart}
use Rattle.math_theory.specs.Laws.{IsEquality, IsGroup, IsProduct, IsRing, IsField}
use Rattle.math_theory.specs.Values.{value}
use Rattle.math_theory.proofs.classes.Classes.{Class, class, class_same, same_class, ring_of_classes}
use Rattle.math_theory.proofs.classes.ClassesOfLists.{coefficient-class}
use Rattle.math_theory.proofs.classes.ClassesOfProducts.{HaveSameCoefficients-classes, polynomial_sum-class, polynomial_product-class}
use Rattle.math_theory.proofs.decoding.CarriedDecoding.{IsKept_step-same, degree_step-same, decoding_found-same, decoding_few-same, decoding_once-same}
use Rattle.math_theory.proofs.polynomials.AlikeCoefficients.{value-alike}
use Rattle.math_theory.proofs.polynomials.BuiltPolynomials.{value-of_one}
use Rattle.math_theory.proofs.polynomials.CarriedDivision.{division_only-same}
use Rattle.math_theory.proofs.polynomials.Coefficients.{coefficient-sum}
use Rattle.math_theory.proofs.polynomials.Products.{product-respects}
use Rattle.math_theory.proofs.rings.RingLaws.{sum-zero_right}
use Rattle.math_theory.proofs.rings.Normal.{ring, ◌⊗◌, 𝟘, 𝟙, v0}
use Rattle.math_decoding.specs.Remainders.{AreRemainders}
use Rattle.math_decoding.proofs.CoefficientLists.{degree-once, degree-within}

module _ {A : Type 0} {same : A → A → Type 0} {zero : A} {sum : A → A → A} {negative : A → A} {product : A → A → A} {one : A} {inverse : A → A}
    (E : IsEquality same) (G : IsGroup same zero sum negative) (P : IsProduct same product) (R : IsRing same sum product one) (F : IsField same zero product one inverse) where
  -- a polynomial with a degree is not zero
  pub not_zero : (p : List A) (n : ℕ) → HasExactDegree same zero p n → ¬ (IsZeroPolynomial same zero p)
  not_zero p n h z = h.leading (z n zero (degree-within zero E p n h))

  -- a polynomial with the same coefficients is kept too
  kept-respects : (points values r r' v : List A) → HaveSameCoefficients same zero r' r → IsKept same zero sum product one points values r v → IsKept same zero sum product one points values r' v
  kept-respects points values r r' v e h i l =
      E.transitive _ _ _ (value-alike E G P R (get_or points i zero) r' r e) (h i l)

  -- the step from two remainders to the next
  pub remainders-next : (points values r v r' v' q rest t w : List A) (n : ℕ) → 0 < length r' → HasExactDegree same zero r' n → length q ≡ length r - n
      → IsDivision same zero sum product n r r' q rest
      → suc (length w) ≡ length q + length v' → HaveSameCoefficients same zero w (polynomial_difference sum negative v (polynomial_product zero sum product q v'))
      → length t ≤ length rest → length rest ≡ n → HaveSameCoefficients same zero t rest → (0 < length t → HasExactDegree same zero t (length t - 1))
      → AreRemainders same zero sum product one points values r v r' v' → AreRemainders same zero sum product one points values r' v' t w
  remainders-next points values r v r' v' q rest t w n some degree lq division lw ew lt lr et trim s =
      let is_n : n ≡ length r' - 1 = degree-once zero E r' n (length r' - 1) degree (s.degree' some) in
      let long : 0 < length v' = omega (arith, s.longer) in
      let top : HasExactDegree same zero w (((length r - 1) - n) + (length v' - 1)) =
      degree_step-same E G P R F (length r - 1) n (length v' - 1) r r' rest q v v' w (omega (arith, is_n, s.shorter)) s.degree degree division
      (omega (arith, lq)) s.factor (omega (arith, s.longer)) ew in
      let at : ((length r - 1) - n) + (length v' - 1) ≡ length w - 1 = omega (arith, lw, lq, is_n, s.shorter, some, long) in
      record {
        kept = s.kept';
        kept' = kept-respects points values rest t w et (IsKept_step-same E G P R F points values r v r' v' q rest w n s.kept s.kept' division ew);
        degree = s.degree' some;
        degree' = trim;
        factor = subst (HasExactDegree same zero w) at top;
        shorter = omega (arith, lt, lr, is_n, some);
        longer = omega (arith, lw, lq, is_n, s.shorter, some, long);
        degrees = omega (arith, lw, lq, is_n, s.shorter, some, long, s.degrees);
      }

  -- the first two: the product of X - x over the points with no factor, and the polynomial through the values with one
  pub remainders-begun : (points values prod through t : List A) (u : A) → same u one → length prod ≡ length points + 1 → HasExactDegree same zero prod (length points)
      → ((i : ℕ) → i < length points → same (value zero sum product one (get_or points i zero) prod) zero) → length t ≤ length points
      → ((i : ℕ) → i < length points → same (value zero sum product one (get_or points i zero) through) (get_or values i zero))
      → HaveSameCoefficients same zero t through → (0 < length t → HasExactDegree same zero t (length t - 1))
      → AreRemainders same zero sum product one points values prod [] t (u ∷ [])
  remainders-begun points values prod through t u hu l degree zeros lt fits et trim =
      let C = ring_of_classes E G P R in
      let at : length prod - 1 ≡ length points = omega (arith, l) in record {
        kept = λ i m. same_class E _ _ (class_same E _ _ (zeros i m) ∙ ring C (class E (get_or values i zero) ∷ []) 𝟘 (𝟘 ⊗ v0) refl);
        kept' = λ i m.
            E.transitive _ _ _ (value-alike E G P R (get_or points i zero) t through et)
            (E.transitive _ _ _ (fits i m)
            (E.symmetric _ _ (same_class E _ _
            (class_same E _ _ (P.respects _ _ _ _ (value-of_one E G P R (get_or points i zero) u (u ∷ []) refl hu) (E.reflexive (get_or values i zero)))
            ∙ ring C (class E (get_or values i zero) ∷ []) (𝟙 ⊗ v0) v0 refl))));
        degree = subst (HasExactDegree same zero prod) (sym at) degree;
        degree' = trim;
        factor = record { leading = λ e. F.distinct (E.transitive _ _ _ (E.symmetric _ _ hu) e); above = λ i m. rw (get_or_past (u ∷ []) i zero (omega (arith, m))) (E.reflexive zero) };
        shorter = omega (arith, l, lt);
        longer = omega arith;
        degrees = omega (arith, l);
      }

  -- nothing is added
  coefficient-sum_none : (p : List A) (i : ℕ) → coefficient zero (polynomial_sum sum p []) i ≡ coefficient zero p i
  coefficient-sum_none [] i = refl
  coefficient-sum_none (a ∷ p) i = refl

  -- a product is divided with no remainder
  exact-division : (n : ℕ) (p d q : List A) → HaveSameCoefficients same zero p (polynomial_product zero sum product q d) → IsDivision same zero sum product n p d q []
  exact-division n p d q h = record {
    gives = λ i. rw (coefficient-sum_none (polynomial_product zero sum product q d) i) (h i);
    below = λ i l. E.reflexive zero;
  }

  -- where a coefficient of the remainder is not zero, p is no product
  pub inexact-remainder : (n m : ℕ) (p d q r : List A) → HasExactDegree same zero d n → IsDivision same zero sum product n p d q r → ¬ (same (coefficient zero r m) zero)
      → (other : List A) → ¬ (HaveSameCoefficients same zero p (polynomial_product zero sum product other d))
  inexact-remainder n m p d q r degree division some other h =
      some (E.symmetric _ _ ((division_only-same E G P R F n p d q r other [] degree division (exact-division n p d other h)).1 m))

  -- where a coefficient of the quotient from count on is not zero, p is no product of so few coefficients
  pub inexact-quotient : (n count : ℕ) (p d q r : List A) → HasExactDegree same zero d n → IsDivision same zero sum product n p d q r
      → ¬ ((i : ℕ) → count ≤ i → same (coefficient zero q i) zero)
      → (other : List A) → length other ≤ count → ¬ (HaveSameCoefficients same zero p (polynomial_product zero sum product other d))
  inexact-quotient n count p d q r degree division some other l h =
      some (λ i m.
      let e = (division_only-same E G P R F n p d q r other [] degree division (exact-division n p d other h)).0 i in
      E.transitive _ _ _ (E.symmetric _ _ e) (rw (get_or_past other i zero (omega (arith, l, m))) (E.reflexive zero)))

  -- where the remainder is zero, p is the product of d and of what is same as the quotient
  pub exact-quotient : (n : ℕ) (p d q r all : List A) → IsDivision same zero sum product n p d q r → ((i : ℕ) → 0 ≤ i → same (coefficient zero r i) zero)
      → HaveSameCoefficients same zero all q → HaveSameCoefficients same zero p (polynomial_product zero sum product all d)
  exact-quotient n p d q r all division none e i =
      let C = ring_of_classes E G P R in
      let classes : List A → List (Class E) = λ p. map (class E) p in
      same_class E _ _
      (class_same E _ _ (division.gives i)
      ∙ sym (coefficient-class E G P R (polynomial_sum sum (polynomial_product zero sum product q d) r) i)
      ∙ ap (λ p. coefficient C.zero p i) (sym (polynomial_sum-class E G P R (polynomial_product zero sum product q d) r))
      ∙ coefficient-sum C (classes (polynomial_product zero sum product q d)) (classes r) i
      ∙ ap (C.sum (coefficient C.zero (classes (polynomial_product zero sum product q d)) i)) (coefficient-class E G P R r i ∙ class_same E _ _ (none i (omega arith)))
      ∙ sum-zero_right C (coefficient C.zero (classes (polynomial_product zero sum product q d)) i)
      ∙ ap (λ p. coefficient C.zero p i) (sym (polynomial_product-class E G P R q d))
      ∙ sym (product-respects C (classes all) (classes q) (classes d) (HaveSameCoefficients-classes E G P R all q e) i)
      ∙ ap (λ p. coefficient C.zero p i) (polynomial_product-class E G P R all d)
      ∙ coefficient-class E G P R (polynomial_product zero sum product all d) i)

  -- what is decoded differs at few places
  pub decoded-few : (points values r v f : List A) (count : ℕ) (wrong : List ℕ) → AreApart same points → IsKept same zero sum product one points values r v
      → HasExactDegree same zero v (length v - 1) → length v + length v + count ≤ suc (suc (length points))
      → HaveSameCoefficients same zero r (polynomial_product zero sum product f v) → AreWrongPlaces same zero sum product one points values f wrong
      → length wrong + length wrong + count ≤ length points
  decoded-few points values r v f count wrong apart kept degree small e places =
      omega (arith, small, degree-within zero E v (length v - 1) degree, decoding_few-same E G P R F points values r v f wrong (length v - 1) apart kept degree e places)

  -- and is the only one
  pub decoded-only : (points values f : List A) (count : ℕ) (wrong : List ℕ) → AreApart same points → count ≤ length points → length f ≡ count
      → AreWrongPlaces same zero sum product one points values f wrong → length wrong + length wrong + count ≤ length points
      → (g : List A) → IsWithinRadius same zero sum product one points values count g → HaveSameCoefficients same zero g f
  decoded-only points values f count wrong apart l e places few g h =
      decoding_once-same E G P R F points values g f count apart l (omega (arith, e), wrong, few, places.agree) h

  -- where r is no such product, there is none
  pub decoded-none : (points values r v : List A) (count : ℕ) → AreApart same points → IsKept same zero sum product one points values r v
      → length r + length r ≤ suc (length points + count) → length v + length v + count ≤ suc (suc (length points))
      → ((q : List A) → length q ≤ count → ¬ (HaveSameCoefficients same zero r (polynomial_product zero sum product q v)))
      → (g : List A) → ¬ (IsWithinRadius same zero sum product one points values count g)
  decoded-none points values r v count apart kept short small none g h =
      none g h.0 (decoding_found-same E G P R F points values r v g count apart kept short small h)
