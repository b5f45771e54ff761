-- How many coefficients sums, products and multiples of polynomials have, which these are, and polynomials with the same coefficients.
use Rattle.std.proofs.Common.{◌≡◌, ℕ, zero, suc, ◌+◌, ◌≤◌, max, List, [], ◌∷◌, ◌++◌, replicate, length, get_or, inl, inr, refl, sym, ◌∙◌, ap, ap₂, arith}
use Rattle.std.proofs.Math.ListN.{get_or-map}
use Rattle.std.proofs.lemmas.Bool.{cases_lt}
use Rattle.std.proofs.lemmas.List.{length-map, length-replicate, get_or-replicate, get_or_past, get_or_default}
use Rattle.std.proofs.lemmas.List.Elements.{All-head, All-tail}
use Rattle.math_theory.specs.Coefficients.{coefficient, polynomial_sum, polynomial_negative, polynomial_difference, polynomial_multiple, polynomial_product, dilation_from, polynomial_dilation}
use Rattle.math_theory.specs.OverRing as OverRing
use Rattle.math_theory.specs.Rings.{CommutativeRing}
use Rattle.math_theory.proofs.rings.RingLaws.{sum-zero_right, negative-zero, zero-product, product-zero, difference-zero}
use Rattle.math_theory.proofs.polynomials.Values.{value-cons, value-difference}

module _ {A : Type 0} (sum : A → A → A) where
  pub length-sum : (p q : List A) → length (polynomial_sum sum p q) ≡ max (length p) (length q)
  length-sum [] q = omega arith
  length-sum (a ∷ p) [] = omega arith
  length-sum (a ∷ p) (b ∷ q) = let e = length-sum p q in omega arith

  pub length-difference : (negative : A → A) (p q : List A) → length (polynomial_difference sum negative p q) ≡ max (length p) (length q)
  length-difference negative p q = length-sum p (polynomial_negative negative q) ∙ ap (max (length p)) (length-map q negative)

  pub length-product : (zero_of : A) (product : A → A → A) (p q : List A) → 1 ≤ length p → 1 ≤ length q → suc (length (polynomial_product zero_of sum product p q)) ≡ length p + length q
  length-product zero_of product [] q h k = absurd (omega arith)
  length-product zero_of product (a ∷ []) q h k = omega (arith, length-sum (polynomial_multiple product q a) (zero_of ∷ []), length-map q (λ c. product c a))
  length-product zero_of product (a ∷ b ∷ p) q h k =
      omega (
        arith,
        length-sum (polynomial_multiple product q a) (zero_of ∷ polynomial_product zero_of sum product (b ∷ p) q),
        length-map q (λ c. product c a),
        length-product zero_of product (b ∷ p) q (omega arith) k,
      )

  -- and where one may be empty, at most one less than both together, or as many as the first
  pub length-product-le : (zero_of : A) (product : A → A → A) (p q : List A) (n : ℕ) → length p ≤ n → length p + length q ≤ suc n → length (polynomial_product zero_of sum product p q) ≤ n
  length-product-le zero_of product [] q n h k = omega arith
  length-product-le zero_of product (a ∷ p) [] (suc n) h k =
      let ih = length-product-le zero_of product p [] n (omega arith) (omega arith) in omega (arith, ih)
  length-product-le zero_of product (a ∷ p) [] zero h k = absurd (omega arith)
  length-product-le zero_of product (a ∷ p) (b ∷ q) n h k = omega (arith, length-product zero_of product (a ∷ p) (b ∷ q) (omega arith) (omega arith))

pub length-dilation_from : {A B : Type 0} (scaling : A → B → A) (one : B) (product : B → B → B) (s : B) (i : ℕ) (p : List A) → length (dilation_from scaling one product s i p) ≡ length p
length-dilation_from scaling one product s i [] = refl
length-dilation_from scaling one product s i (a ∷ p) = ap suc (length-dilation_from scaling one product s (suc i) p)

pub length-dilation : {A B : Type 0} (scaling : A → B → A) (one : B) (product : B → B → B) (s : B) (p : List A) → length (polynomial_dilation scaling one product s p) ≡ length p
length-dilation scaling one product s p = length-dilation_from scaling one product s 0 p

module _ {A : Type 0} (R : CommutativeRing A) where
  pub coefficient-sum : (p q : List A) (i : ℕ) → coefficient R.zero (polynomial_sum R.sum p q) i ≡ R.sum (coefficient R.zero p i) (coefficient R.zero q i)
  coefficient-sum [] q i = sym (R.sum_zero (coefficient R.zero q i))
  coefficient-sum (a ∷ p) [] i = sym (sum-zero_right R (coefficient R.zero (a ∷ p) i))
  coefficient-sum (a ∷ p) (b ∷ q) zero = refl
  coefficient-sum (a ∷ p) (b ∷ q) (suc i) = coefficient-sum p q i

  pub coefficient-negative : (p : List A) (i : ℕ) → coefficient R.zero (polynomial_negative R.negative p) i ≡ R.negative (coefficient R.zero p i)
  coefficient-negative p i = ap (get_or (polynomial_negative R.negative p) i) (sym (negative-zero R)) ∙ get_or-map R.negative p i R.zero

  pub coefficient-difference : (p q : List A) (i : ℕ) → coefficient R.zero (polynomial_difference R.sum R.negative p q) i ≡ R.sum (coefficient R.zero p i) (R.negative (coefficient R.zero q i))
  coefficient-difference p q i = coefficient-sum p (polynomial_negative R.negative q) i ∙ ap (R.sum (coefficient R.zero p i)) (coefficient-negative q i)

  pub coefficient-multiple : (p : List A) (s : A) (i : ℕ)
      → coefficient R.zero (polynomial_multiple R.product p s) i ≡ R.product (coefficient R.zero p i) s
  coefficient-multiple p s i = ap (get_or (polynomial_multiple R.product p s) i) (sym (zero-product R s)) ∙ get_or-map (λ c. R.product c s) p i R.zero

  coefficient-dilation_from : (s : A) (k : ℕ) (p : List A) (i : ℕ)
      → coefficient R.zero (dilation_from R.product R.one R.product s k p) i ≡ R.product (coefficient R.zero p i) (OverRing.power R s (k + i))
  coefficient-dilation_from s k [] i = sym (zero-product R (OverRing.power R s (k + i)))
  coefficient-dilation_from s k (a ∷ p) zero = let e : k ≡ k + 0 = omega arith in ap (λ n. R.product a (OverRing.power R s n)) e
  coefficient-dilation_from s k (a ∷ p) (suc i) =
      let e : suc k + i ≡ k + suc i = omega arith in
      coefficient-dilation_from s (suc k) p i ∙ ap (λ n. R.product (coefficient R.zero p i) (OverRing.power R s n)) e

  pub coefficient-dilation : (s : A) (p : List A) (i : ℕ) → coefficient R.zero (polynomial_dilation R.product R.one R.product s p) i ≡ R.product (coefficient R.zero p i) (OverRing.power R s i)
  coefficient-dilation s p i = let e : 0 + i ≡ i = omega arith in coefficient-dilation_from s 0 p i ∙ ap (λ n. R.product (coefficient R.zero p i) (OverRing.power R s n)) e

  pub coefficient-padded : (p : List A) (n i : ℕ) → coefficient R.zero (p ++ replicate n R.zero) i ≡ coefficient R.zero p i
  coefficient-padded [] n i = elim (cases_lt i n) [ inl l ↦ get_or-replicate n i R.zero R.zero l | inr g ↦ get_or_past (replicate n R.zero) i R.zero (omega (arith, g, length-replicate n R.zero)) ]
  coefficient-padded (a ∷ p) n zero = refl
  coefficient-padded (a ∷ p) n (suc i) = coefficient-padded p n i

  pub coefficient-zero_polynomial : (a : List A) → OverRing.IsZeroPolynomial R a → (i : ℕ) → coefficient R.zero a i ≡ R.zero
  coefficient-zero_polynomial a h i = elim (cases_lt i (length a)) [ inl l ↦ h i R.zero l | inr g ↦ get_or_past a i R.zero g ]

  -- where the difference is the zero polynomial, the coefficients are equal, and the other way round
  pub HaveSameCoefficients-from_difference : (p q : List A) → OverRing.IsZeroPolynomial R (polynomial_difference R.sum R.negative p q) → OverRing.HaveSameCoefficients R p q
  HaveSameCoefficients-from_difference p q h i =
      difference-zero R (coefficient R.zero p i) (coefficient R.zero q i)
      (sym (coefficient-difference p q i) ∙ coefficient-zero_polynomial (polynomial_difference R.sum R.negative p q) h i)

  pub difference-from_HaveSameCoefficients : (p q : List A) → OverRing.HaveSameCoefficients R p q → OverRing.IsZeroPolynomial R (polynomial_difference R.sum R.negative p q)
  difference-from_HaveSameCoefficients p q h k d l =
      get_or_default (polynomial_difference R.sum R.negative p q) k d R.zero l ∙ coefficient-difference p q k
      ∙ ap (λ c. R.sum c (R.negative (coefficient R.zero q k))) (h k) ∙ R.sum_negative (coefficient R.zero q k)

  pub value-zero_polynomial : (r : A) (p : List A) → OverRing.IsZeroPolynomial R p → OverRing.value R r p ≡ R.zero
  value-zero_polynomial r [] h = refl
  value-zero_polynomial r (a ∷ p) h =
      value-cons R r a p ∙ ap₂ (λ u v. R.sum u (R.product r v)) (All-head (λ c. c ≡ R.zero) a p h) (value-zero_polynomial r p (All-tail (λ c. c ≡ R.zero) a p h))
      ∙ R.sum_zero (R.product r R.zero) ∙ product-zero R r

  -- polynomials with the same coefficients have the same values
  pub value-HaveSameCoefficients : (r : A) (p q : List A) → OverRing.HaveSameCoefficients R p q → OverRing.value R r p ≡ OverRing.value R r q
  value-HaveSameCoefficients r p q h =
      difference-zero R (OverRing.value R r p) (OverRing.value R r q)
      (sym (value-difference R r p q) ∙ value-zero_polynomial r (polynomial_difference R.sum R.negative p q) (difference-from_HaveSameCoefficients p q h))
