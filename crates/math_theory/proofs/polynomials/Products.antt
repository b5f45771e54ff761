-- The coefficients of products of polynomials: the greatest, those past it, and factors of what has none from some index on.
use Rattle.std.proofs.Common.{◌≡◌, ◌≢◌, ℕ, zero, suc, ◌+◌, ◌≤◌, List, [], ◌∷◌, refl, sym, ◌∙◌, ap, ap₂, arith}
use Rattle.math_theory.specs.OverRing.{coefficient, polynomial_sum, polynomial_negative, polynomial_difference, polynomial_multiple, polynomial_product, HaveSameCoefficients}
use Rattle.math_theory.specs.Rings.{CommutativeRing, Field}
use Rattle.math_theory.proofs.polynomials.Coefficients.{coefficient-sum, coefficient-multiple, coefficient-difference}
use Rattle.math_theory.proofs.polynomials.Roots.{no_zero_divisors}
use Rattle.math_theory.proofs.rings.Normal.{ring, combine2, ◌⊕◌, ◌⊗◌, minus, 𝟘, 𝟙, v0, v1, v2, v3, v4}
use Rattle.math_theory.proofs.rings.RingLaws.{sum-zero_right, product-zero, difference-zero}

module _ {A : Type 0} (R : CommutativeRing A) where
  open R use {sum, negative, product}

  -- each coefficient from n on is zero
  abbrev pub IsZeroFrom : List A → ℕ → Type 0
  IsZeroFrom p n = (i : ℕ) → n ≤ i → coefficient R p i ≡ R.zero

  pub first-product : (c : A) (q d : List A) → coefficient R (polynomial_product R (c ∷ q) d) 0 ≡ product (coefficient R d 0) c
  first-product c q d =
      coefficient-sum R (polynomial_multiple R d c) (R.zero ∷ polynomial_product R q d) 0
      ∙ ap (λ x. sum x R.zero) (coefficient-multiple R d c 0) ∙ sum-zero_right R (product (coefficient R d 0) c)

  pub next-product : (c : A) (q d : List A) (i : ℕ)
      → coefficient R (polynomial_product R (c ∷ q) d) (suc i) ≡ sum (product (coefficient R d (suc i)) c) (coefficient R (polynomial_product R q d) i)
  next-product c q d i =
      coefficient-sum R (polynomial_multiple R d c) (R.zero ∷ polynomial_product R q d) (suc i)
      ∙ ap (λ x. sum x (coefficient R (polynomial_product R q d) i)) (coefficient-multiple R d c (suc i))

  -- what is zero times anything is zero
  pub zero-times : (q d : List A) → IsZeroFrom q 0 → IsZeroFrom (polynomial_product R q d) 0
  zero-times [] d h i l = refl
  zero-times (c ∷ q) d h zero l = first-product c q d ∙ ap (product (coefficient R d 0)) (h 0 (omega arith)) ∙ product-zero R (coefficient R d 0)
  zero-times (c ∷ q) d h (suc i) l =
      next-product c q d i
      ∙ combine2 R (coefficient R d (suc i) ∷ c ∷ coefficient R (polynomial_product R q d) i ∷ []) ((v0 ⊗ v1) ⊕ v2) 𝟘 v0 v1 𝟘 𝟙 v2 𝟘
      (h 0 (omega arith)) (zero-times q d (λ j m. h (suc j) (omega arith)) i (omega arith)) refl

  -- two factors that are zero past the indices a and b: the product is zero past a + b
  pub product-above : (q d : List A) (a b : ℕ) → IsZeroFrom q (suc a) → IsZeroFrom d (suc b) → IsZeroFrom (polynomial_product R q d) (suc (a + b))
  product-above [] d a b h k i l = refl
  product-above (c ∷ q) d a b h k zero l = absurd (omega arith)
  product-above (c ∷ q) d zero b h k (suc i) l =
      next-product c q d i
      ∙ combine2 R (coefficient R d (suc i) ∷ c ∷ coefficient R (polynomial_product R q d) i ∷ []) ((v0 ⊗ v1) ⊕ v2) 𝟘 v1 v0 𝟘 𝟙 v2 𝟘
      (k (suc i) (omega arith)) (zero-times q d (λ j m. h (suc j) (omega arith)) i (omega arith)) refl
  product-above (c ∷ q) d (suc a) b h k (suc i) l =
      next-product c q d i
      ∙ combine2 R (coefficient R d (suc i) ∷ c ∷ coefficient R (polynomial_product R q d) i ∷ []) ((v0 ⊗ v1) ⊕ v2) 𝟘 v1 v0 𝟘 𝟙 v2 𝟘
      (k (suc i) (omega arith)) (product-above q d a b (λ j m. h (suc j) (omega arith)) k i (omega arith)) refl

  -- and coefficient a + b of it is the product of theirs
  pub product-leading : (q d : List A) (a b : ℕ) → IsZeroFrom q (suc a) → IsZeroFrom d (suc b)
      → coefficient R (polynomial_product R q d) (a + b) ≡ product (coefficient R d b) (coefficient R q a)
  product-leading [] d a b h k = sym (product-zero R (coefficient R d b))
  product-leading (c ∷ q) d zero zero h k = first-product c q d
  product-leading (c ∷ q) d zero (suc b) h k =
      let e : 0 + suc b ≡ suc b = omega arith in
      ap (coefficient R (polynomial_product R (c ∷ q) d)) e
      ∙ next-product c q d b
      ∙ ap (sum (product (coefficient R d (suc b)) c)) (zero-times q d (λ j m. h (suc j) (omega arith)) b (omega arith))
      ∙ sum-zero_right R (product (coefficient R d (suc b)) c)
  product-leading (c ∷ q) d (suc a) b h k =
      let e : suc a + b ≡ suc (a + b) = omega arith in
      ap (coefficient R (polynomial_product R (c ∷ q) d)) e
      ∙ next-product c q d (a + b)
      ∙ combine2 R (coefficient R d (suc (a + b)) ∷ c ∷ coefficient R (polynomial_product R q d) (a + b) ∷ product (coefficient R d b) (coefficient R q a) ∷ [])
      ((v0 ⊗ v1) ⊕ v2) v3 v1 v0 𝟘 𝟙 v2 v3
      (k (suc (a + b)) (omega arith)) (product-leading q d a b (λ j m. h (suc j) (omega arith)) k) refl

  -- products of sums, of negatives and of differences
  product-of_sum : (p q d : List A) (i : ℕ)
      → coefficient R (polynomial_product R (polynomial_sum R p q) d) i ≡ sum (coefficient R (polynomial_product R p d) i) (coefficient R (polynomial_product R q d) i)
  product-of_sum [] q d i = sym (R.sum_zero (coefficient R (polynomial_product R q d) i))
  product-of_sum (a ∷ p) [] d i = sym (sum-zero_right R (coefficient R (polynomial_product R (a ∷ p) d) i))
  product-of_sum (a ∷ p) (b ∷ q) d zero =
      first-product (sum a b) (polynomial_sum R p q) d
      ∙ ring R (coefficient R d 0 ∷ a ∷ b ∷ []) (v0 ⊗ (v1 ⊕ v2)) ((v0 ⊗ v1) ⊕ (v0 ⊗ v2)) refl
      ∙ sym (ap₂ sum (first-product a p d) (first-product b q d))
  product-of_sum (a ∷ p) (b ∷ q) d (suc i) =
      next-product (sum a b) (polynomial_sum R p q) d i
      ∙ ap (sum (product (coefficient R d (suc i)) (sum a b))) (product-of_sum p q d i)
      ∙ rearranged (coefficient R d (suc i)) a b (coefficient R (polynomial_product R p d) i) (coefficient R (polynomial_product R q d) i)
      ∙ sym (ap₂ sum (next-product a p d i) (next-product b q d i))
    where
      rearranged : (e a b x y : A) → sum (product e (sum a b)) (sum x y) ≡ sum (sum (product e a) x) (sum (product e b) y)
      rearranged e a b x y = ring R (e ∷ a ∷ b ∷ x ∷ y ∷ []) ((v0 ⊗ (v1 ⊕ v2)) ⊕ (v3 ⊕ v4)) (((v0 ⊗ v1) ⊕ v3) ⊕ ((v0 ⊗ v2) ⊕ v4)) refl

  product-of_negative : (p d : List A) (i : ℕ)
      → coefficient R (polynomial_product R (polynomial_negative R p) d) i ≡ negative (coefficient R (polynomial_product R p d) i)
  product-of_negative [] d i = ring R [] 𝟘 (minus 𝟘) refl
  product-of_negative (a ∷ p) d zero =
      first-product (negative a) (polynomial_negative R p) d
      ∙ ring R (coefficient R d 0 ∷ a ∷ []) (v0 ⊗ minus v1) (minus (v0 ⊗ v1)) refl
      ∙ sym (ap negative (first-product a p d))
  product-of_negative (a ∷ p) d (suc i) =
      next-product (negative a) (polynomial_negative R p) d i
      ∙ ap (sum (product (coefficient R d (suc i)) (negative a))) (product-of_negative p d i)
      ∙ ring R (coefficient R d (suc i) ∷ a ∷ coefficient R (polynomial_product R p d) i ∷ []) ((v0 ⊗ minus v1) ⊕ minus v2) (minus ((v0 ⊗ v1) ⊕ v2)) refl
      ∙ sym (ap negative (next-product a p d i))

  pub product-of_difference : (p q d : List A) (i : ℕ)
      → coefficient R (polynomial_product R (polynomial_difference R p q) d) i
      ≡ sum (coefficient R (polynomial_product R p d) i) (negative (coefficient R (polynomial_product R q d) i))
  product-of_difference p q d i =
      product-of_sum p (polynomial_negative R q) d i ∙ ap (sum (coefficient R (polynomial_product R p d) i)) (product-of_negative q d i)

  -- polynomials with the same coefficients have products with the same
  pub product-respects : (p q d : List A) → HaveSameCoefficients R p q → HaveSameCoefficients R (polynomial_product R p d) (polynomial_product R q d)
  product-respects p q d h i =
      difference-zero R (coefficient R (polynomial_product R p d) i) (coefficient R (polynomial_product R q d) i)
      (sym (product-of_difference p q d i)
      ∙ zero-times (polynomial_difference R p q) d
      (λ j l. coefficient-difference R p q j ∙ ap (λ x. sum x (negative (coefficient R q j))) (h j) ∙ R.sum_negative (coefficient R q j)) i (omega arith))

module _ {A : Type 0} (F : Field A) where
  open F use {ring as R}

  -- where the product with d, whose last coefficient that is not zero is d_n, is zero from n on, the other factor is zero
  pub factor-zero : (u d : List A) (n : ℕ) → coefficient R d n ≢ F.zero → IsZeroFrom R d (suc n) → IsZeroFrom R (polynomial_product R u d) n → IsZeroFrom R u 0
  factor-zero [] d n leading above h = λ i l. refl
  factor-zero (c ∷ u) d n leading above h =
      more (factor-zero u d n leading above
      (λ i l. combine2 R (coefficient R d (suc i) ∷ c ∷ coefficient R (polynomial_product R u d) i ∷ []) v2 𝟘 (minus v1) v0 𝟘 𝟙 ((v0 ⊗ v1) ⊕ v2) 𝟘
      (above (suc i) (omega arith)) (sym (next-product R c u d i) ∙ h (suc i) (omega arith)) refl))
    where
      at_leading : IsZeroFrom R u 0 → (m : ℕ) → coefficient R (polynomial_product R (c ∷ u) d) m ≡ F.product (coefficient R d m) c
      at_leading rest zero = first-product R c u d
      at_leading rest (suc m) =
          next-product R c u d m ∙ ap (F.sum (F.product (coefficient R d (suc m)) c)) (zero-times R u d rest m (omega arith))
          ∙ sum-zero_right R (F.product (coefficient R d (suc m)) c)

      more : IsZeroFrom R u 0 → IsZeroFrom R (c ∷ u) 0
      more rest zero l = no_zero_divisors F (coefficient R d n) c leading (sym (at_leading rest n) ∙ h n (omega arith))
      more rest (suc i) l = rest i (omega arith)
