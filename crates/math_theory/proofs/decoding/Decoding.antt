-- Unique decoding over a field: where r(x) is v(x) y at each of m points x and its value y, the polynomial f of at most k coefficients that agrees
-- with all but at most (m - k) / 2 of the values is r divided by v.
use Rattle.std.proofs.Common.{◌≡◌, ◌≢◌, ◌⊎◌, ℕ, zero, suc, ◌+◌, ◌-◌, ◌<◌, ◌≤◌, List, [], ◌∷◌, length, map, get_or, inl, inr, refl, sym, ◌∙◌, ap, ap₂, arith}
use Rattle.std.proofs.lemmas.Bool.{cases_eq}
use Rattle.std.proofs.lemmas.List.{length-map, get_or-map, get_or_default, get_or_past}
use Rattle.std.proofs.lemmas.List.Kept.{AllPairs-from_increasing}
use Rattle.std.specs.List.{All, Contains}
use Rattle.std.specs.List.Sorted.{IsStrictlyIncreasing}
use Rattle.math_theory.specs.OverRing.{AreDistinct, coefficient, value, polynomial_sum, polynomial_difference, polynomial_product, HaveSameCoefficients, IsZeroPolynomial, HasExactDegree, IsDivision, IsKept, IsWithinRadius, root_product}
use Rattle.math_theory.specs.Rings.{CommutativeRing, Field}
use Rattle.math_theory.proofs.polynomials.Coefficients.{length-difference, length-product-le, coefficient-difference, coefficient-zero_polynomial, value-HaveSameCoefficients}
use Rattle.math_theory.proofs.polynomials.Products.{IsZeroFrom, product-above, product-leading, product-of_difference, factor-zero}
use Rattle.math_theory.proofs.polynomials.Division.{quotient-leading}
use Rattle.math_theory.proofs.polynomials.RootProducts.{vanishing_polynomial, length-vanishing_polynomial, value-vanishing_polynomial, root_product-at_root}
use Rattle.math_theory.proofs.polynomials.Roots.{no_zero_divisors, product-nonzero, IsZeroPolynomial-from_roots, few_roots}
use Rattle.math_theory.proofs.polynomials.Values.{value-sum, value-difference, value-product}
use Rattle.math_theory.proofs.rings.Normal.{ring, combine, combine2, combine3, ◌⊕◌, ◌⊗◌, ◌⊖◌, minus, 𝟘, 𝟙, v0, v1, v2, v3, v4, v5}
use Rattle.math_theory.proofs.rings.RingLaws.{zero-product, product-zero, product-one_right, difference-zero}

-- whether a number is among some numbers
pub contained : (places : List ℕ) (i : ℕ) → Contains places i ⊎ ¬ (Contains places i)
contained [] i = inr (λ (k, l, e). absurd (omega (arith, l)))
contained (j ∷ places) i =
    elim (cases_eq j i) [
      | inl e ↦ inl (0, omega arith, e)
      | inr n ↦ elim (contained places i) [
        | inl (k, l, e) ↦ inl (suc k, omega arith, e)
        | inr m ↦ inr (not_in n m)
      ]
    ]
  where
    not_in : j ≢ i → ¬ (Contains places i) → ¬ (Contains (j ∷ places) i)
    not_in n m (zero, l, e) = n e
    not_in n m (suc k, l, e) = m (k, omega (arith, l), e)

module _ {A : Type 0} (R : CommutativeRing A) where
  open R use {sum, negative, product}

  -- the first fact: it is kept by a step of division
  pub IsKept-step : (points values r v r' v' q r'' v'' : List A) (n : ℕ) → IsKept R points values r v → IsKept R points values r' v' → IsDivision R n r r' q r''
      → HaveSameCoefficients R v'' (polynomial_difference R v (polynomial_product R q v'))
      → IsKept R points values r'' v''
  IsKept-step points values r v r' v' q r'' v'' n h h' d e i l =
      let x = get_or points i R.zero in
      combine3 R (value R x r'' ∷ value R x q ∷ value R x r' ∷ value R x v ∷ value R x v' ∷ get_or values i R.zero ∷ []) v0 ((v3 ⊖ (v1 ⊗ v4)) ⊗ v5)
      𝟙 ((v1 ⊗ v2) ⊕ v0) (v3 ⊗ v5) (minus v1) v2 (v4 ⊗ v5) 𝟘 𝟘 𝟘
      (sym (value-HaveSameCoefficients R x r (polynomial_sum R (polynomial_product R q r') r'') d.gives
      ∙ value-sum R x (polynomial_product R q r') r'' ∙ ap (λ y. sum y (value R x r'')) (value-product R x q r')) ∙ h i l)
      (h' i l) refl refl
      ∙ ap (λ y. product y (get_or values i R.zero))
      (sym (value-HaveSameCoefficients R x v'' (polynomial_difference R v (polynomial_product R q v')) e
      ∙ value-difference R x v (polynomial_product R q v') ∙ ap (λ y. sum (value R x v) (negative y)) (value-product R x q v')))

  -- the product of X - x over the roots is one at its greatest index, and zero past it
  pub vanishing-above : (roots : List A) → IsZeroFrom R (vanishing_polynomial R roots) (suc (length roots))
  vanishing-above roots i l = get_or_past (vanishing_polynomial R roots) i R.zero (omega (arith, l, length-vanishing_polynomial R roots))

  pub vanishing-leading : (roots : List A) → coefficient R (vanishing_polynomial R roots) (length roots) ≡ R.one
  vanishing-leading [] = refl
  vanishing-leading (x ∷ roots) =
      let e : suc (length roots) ≡ 1 + length roots = omega arith in
      ap (coefficient R (vanishing_polynomial R (x ∷ roots))) e
      ∙ product-leading R (negative x ∷ R.one ∷ []) (vanishing_polynomial R roots) 1 (length roots) (λ i l. get_or_past (negative x ∷ R.one ∷ []) i R.zero (omega (arith, l))) (vanishing-above roots)
      ∙ product-one_right R (coefficient R (vanishing_polynomial R roots) (length roots)) ∙ vanishing-leading roots

module _ {A : Type 0} (F : Field A) where
  open F use {sum, negative, product, ring as R}

  -- the second and the third fact: with a step, as the degree of the remainder falls from a to b, that of the factor rises from s to s + (a - b)
  pub degree-step : (a b s : ℕ) (r r' r'' q v v' v'' : List A) → b ≤ a → HasExactDegree R r a → HasExactDegree R r' b → IsDivision R b r r' q r''
      → IsZeroFrom R q (suc (a - b)) → HasExactDegree R v' s → IsZeroFrom R v s
      → HaveSameCoefficients R v'' (polynomial_difference R v (polynomial_product R q v')) → HasExactDegree R v'' ((a - b) + s)
  degree-step a b s r r' r'' q v v' v'' l degree degree' h short factor before e = record {
    leading = λ z. product-nonzero F (coefficient R v' s) (coefficient R q (a - b)) factor.leading
        (quotient-leading F a b r r' q r'' l degree degree' h short)
        (combine3 R (product (coefficient R v' s) (coefficient R q (a - b)) ∷ coefficient R v ((a - b) + s) ∷ coefficient R (polynomial_product R q v') ((a - b) + s) ∷ []) v0 𝟘
        𝟙 v1 𝟘 (minus 𝟙) (v1 ⊖ v2) 𝟘 (minus 𝟙) v2 v0
        (before ((a - b) + s) (omega arith))
        (sym (e ((a - b) + s) ∙ coefficient-difference R v (polynomial_product R q v') ((a - b) + s)) ∙ z)
        (product-leading R q v' (a - b) s short (λ i l. factor.above i (omega (arith, l)))) refl);
    above = λ i l.
        e i ∙ coefficient-difference R v (polynomial_product R q v') i
        ∙ combine2 R (coefficient R v i ∷ coefficient R (polynomial_product R q v') i ∷ []) (v0 ⊖ v1) 𝟘 𝟙 v0 𝟘 (minus 𝟙) v1 𝟘
        (before i (omega (arith, l))) (product-above R q v' (a - b) s short (λ i l. factor.above i (omega (arith, l))) i (omega (arith, l))) refl;
  }

  -- nothing is missed: what agrees outside few places, times v, is r
  pub decoding-found : (points values r v g : List A) (count : ℕ) → AreDistinct points → IsKept R points values r v
      → length r + length r ≤ suc (length points + count) → length v + length v + count ≤ suc (suc (length points))
      → IsWithinRadius R points values count g → HaveSameCoefficients R r (polynomial_product R g v)
  decoding-found points values r v g count apart kept short_r short_v (short, places, few, agree) i =
      difference-zero R (coefficient R r i) (coefficient R (polynomial_product R g v) i)
      (sym (coefficient-difference R r (polynomial_product R g v) i)
      ∙ factor-zero F u w (length roots) (λ e. F.one_apart (sym (vanishing-leading R roots) ∙ e)) (vanishing-above R roots)
      (λ j l. coefficient-zero_polynomial R (polynomial_product R u w) zeros j) i (omega arith))
    where
      roots : List A
      roots = map (λ i. get_or points i F.zero) places

      w : List A
      w = vanishing_polynomial R roots

      u : List A
      u = polynomial_difference R r (polynomial_product R g v)

      number : length roots ≡ length places
      number = length-map places (λ i. get_or points i F.zero)

      zero_at : (i : ℕ) → i < length points → value R (get_or points i F.zero) (polynomial_product R u w) ≡ F.zero
      zero_at i l =
          let x = get_or points i F.zero in
          value-product R x u w
          ∙ elim (contained places i) [
            | inl (k, m, e) ↦
                ap (product (value R x u)) (value-vanishing_polynomial R x roots
                ∙ ap (λ y. root_product R y roots) (sym (get_or-map (λ i. get_or points i F.zero) places k 0 F.zero m ∙ ap (λ i. get_or points i F.zero) (get_or_default places k 0 i m ∙ e)))
                ∙ root_product-at_root R roots k F.zero (omega (arith, m, number)))
                ∙ product-zero R (value R x u)
            | inr n ↦
                ap (λ y. product y (value R x w)) (value-difference R x r (polynomial_product R g v)
                ∙ ap₂ (λ y z. sum y (negative z)) (kept i l) (value-product R x g v ∙ ap (λ y. product y (value R x v)) (agree i l n))
                ∙ ring R (value R x v ∷ get_or values i F.zero ∷ []) ((v0 ⊗ v1) ⊖ (v1 ⊗ v0)) 𝟘 refl)
                ∙ zero-product R (value R x w)
          ]

      short_product : length (polynomial_product R u w) ≤ length points
      short_product =
          let left = length points - length places in
          let short_gv : length (polynomial_product R g v) ≤ left = length-product-le sum F.zero product g v left (omega (arith, few, short)) (omega (arith, few, short, short_v)) in
          length-product-le sum F.zero product u w (length points)
          (omega (arith, length-difference sum negative r (polynomial_product R g v), short_gv, short_r, few))
          (omega (arith, length-difference sum negative r (polynomial_product R g v), short_gv, short_r, few, length-vanishing_polynomial R roots, number))

      zeros : IsZeroPolynomial R (polynomial_product R u w)
      zeros =
          IsZeroPolynomial-from_roots F points (polynomial_product R u w) short_product apart
          (λ k d l. ap (λ x. value R x (polynomial_product R u w)) (get_or_default points k d F.zero l) ∙ zero_at k l)

  -- where r is f v, f disagrees at no more places than v has coefficients but one
  pub decoding-few : (points values r v f : List A) (wrong : List ℕ) (n : ℕ) → AreDistinct points → IsKept R points values r v
      → HasExactDegree R v n → HaveSameCoefficients R r (polynomial_product R f v)
      → IsStrictlyIncreasing wrong → All (λ i. i < length points) wrong
      → All (λ i. value R (get_or points i F.zero) f ≢ get_or values i F.zero) wrong → length wrong ≤ length v - 1
  decoding-few points values r v f wrong n apart kept degree e rising below differ =
      omega (arith, length-map wrong (λ i. get_or points i F.zero), few_roots F v roots (λ z. degree.leading (coefficient-zero_polynomial R v z n)) distinct are_roots)
    where
      roots : List A
      roots = map (λ i. get_or points i F.zero) wrong

      root_at : (k : ℕ) (d : A) → k < length wrong → get_or roots k d ≡ get_or points (get_or wrong k 0) F.zero
      root_at k d l = get_or-map (λ i. get_or points i F.zero) wrong k 0 d l

      inside : (k : ℕ) → k < length wrong → get_or wrong k 0 < length points
      inside k l = below k 0 l

      distinct : AreDistinct roots
      distinct i j d l m s =
          let n : j < length wrong = omega (arith, m, length-map wrong (λ i. get_or points i F.zero)) in
          apart (get_or wrong i 0) (get_or wrong j 0) F.zero (AllPairs-from_increasing wrong rising i j 0 l n) (inside j n)
          (sym (root_at i d (omega (arith, l, n))) ∙ s ∙ root_at j d n)

      zero_at : (i : ℕ) → i < length points → value R (get_or points i F.zero) f ≢ get_or values i F.zero → value R (get_or points i F.zero) v ≡ F.zero
      zero_at i l o =
          let x = get_or points i F.zero in
          no_zero_divisors F (sum (value R x f) (negative (get_or values i F.zero))) (value R x v)
          (λ z. o (difference-zero R (value R x f) (get_or values i F.zero) z))
          (combine R (value R x f ∷ get_or values i F.zero ∷ value R x v ∷ []) ((v0 ⊖ v1) ⊗ v2) 𝟘 𝟙 (v0 ⊗ v2) (v2 ⊗ v1)
          (sym (value-HaveSameCoefficients R x r (polynomial_product R f v) e ∙ value-product R x f v) ∙ kept i l) refl)

      are_roots : All (λ x. value R x v ≡ F.zero) roots
      are_roots k d l =
          let m : k < length wrong = omega (arith, l, length-map wrong (λ i. get_or points i F.zero)) in
          ap (λ x. value R x v) (root_at k d m) ∙ zero_at (get_or wrong k 0) (inside k m) (differ k 0 m)

  -- two that agree with the values outside few places have the same coefficients
  pub decoding-once : (points values g f : List A) (count : ℕ) → AreDistinct points → count ≤ length points
      → IsWithinRadius R points values count f → IsWithinRadius R points values count g → HaveSameCoefficients R g f
  decoding-once points values g f count apart l (short, places, few, agree) h i =
      difference-zero R (coefficient R g i) (coefficient R f i)
      (sym (coefficient-difference R g f i)
      ∙ factor-zero F (polynomial_difference R g f) w (length roots) (λ e. F.one_apart (sym (vanishing-leading R roots) ∙ e)) (vanishing-above R roots)
      (λ j l. product-of_difference R g f w j
      ∙ ap (λ x. sum x (negative (coefficient R (polynomial_product R f w) j))) (sym (decoding-found points values (polynomial_product R f w) w g count apart kept short_r short_v h j))
      ∙ F.sum_negative (coefficient R (polynomial_product R f w) j)) i (omega arith))
    where
      roots : List A
      roots = map (λ i. get_or points i F.zero) places

      w : List A
      w = vanishing_polynomial R roots

      number : length roots ≡ length places
      number = length-map places (λ i. get_or points i F.zero)

      kept : IsKept R points values (polynomial_product R f w) w
      kept i l =
          let x = get_or points i F.zero in
          value-product R x f w
          ∙ elim (contained places i) [
            | inl (k, m, e) ↦
                (let z : value R x w ≡ F.zero = value-vanishing_polynomial R x roots
                ∙ ap (λ y. root_product R y roots) (sym (get_or-map (λ i. get_or points i F.zero) places k 0 F.zero m ∙ ap (λ i. get_or points i F.zero) (get_or_default places k 0 i m ∙ e)))
                ∙ root_product-at_root R roots k F.zero (omega (arith, m, number)) in
                combine R (value R x f ∷ value R x w ∷ get_or values i F.zero ∷ []) (v0 ⊗ v1) (v1 ⊗ v2) (v0 ⊖ v2) v1 𝟘 z refl)
            | inr n ↦ ap (λ y. product y (value R x w)) (agree i l n) ∙ R.product_comm (get_or values i F.zero) (value R x w)
          ]

      short_v : length w + length w + count ≤ suc (suc (length points))
      short_v = omega (arith, length-vanishing_polynomial R roots, number, few)

      short_r : length (polynomial_product R f w) + length (polynomial_product R f w) ≤ suc (length points + count)
      short_r =
          let most = count + length places in
          omega (arith, few, length-product-le sum F.zero product f w most (omega (arith, short)) (omega (arith, short, length-vanishing_polynomial R roots, number)))
