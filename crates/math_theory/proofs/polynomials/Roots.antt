-- Roots over a field: a polynomial that is not zero has fewer distinct roots than coefficients, so values at enough points determine the coefficients.
use Rattle.std.proofs.Common.{◌≡◌, ◌≢◌, ◌-◌, ◌≤◌, suc, List, [], ◌∷◌, length, get_or, inl, inr, refl, sym, ◌∙◌, ap, ap₂, arith}
use Rattle.std.proofs.lemmas.Bool.{cases_lt}
use Rattle.std.proofs.lemmas.List.Elements.{All-nil, All-cons, All-head, All-tail}
use Rattle.std.specs.List.{All}
use Rattle.math_theory.specs.OverRing.{AreDistinct, value, IsZeroPolynomial, HaveSameCoefficients, polynomial_difference}
use Rattle.math_theory.specs.Rings.{CommutativeRing, Field}
use Rattle.math_theory.proofs.lists.Apart.{AreApart-head, AreApart-tail}
use Rattle.math_theory.proofs.polynomials.Coefficients.{length-difference, HaveSameCoefficients-from_difference, value-HaveSameCoefficients}
use Rattle.math_theory.proofs.rings.Normal.{ring, combine, combine2, ◌⊕◌, ◌⊗◌, ◌⊖◌, minus, 𝟘, 𝟙, v0, v1, v2, v3, v4, v5}
use Rattle.math_theory.proofs.rings.RingLaws.{difference-zero}
use Rattle.math_theory.proofs.polynomials.Values.{horner, value-horner, value-difference}

module _ {A : Type 0} (R : CommutativeRing A) where
  open R use {sum, negative, product}

  -- the quotient of a + X p by X - c: Horner's values at c of p and of each of its ends
  abbrev quotient : A → List A → List A
  quotient c [] = []
  quotient c (a ∷ p) = horner R c (a ∷ p) ∷ quotient c p

  length-quotient : (c : A) (p : List A) → length (quotient c p) ≡ length p
  length-quotient c [] = refl
  length-quotient c (a ∷ p) = ap suc (length-quotient c p)

  -- synthetic division: the value at r less the value at c is r - c times the quotient's value at r
  horner-quotient : (r c a : A) (p : List A) → sum (horner R r (a ∷ p)) (negative (horner R c (a ∷ p))) ≡ product (sum r (negative c)) (horner R r (quotient c p))
  horner-quotient r c a [] = ring R (r ∷ c ∷ a ∷ []) ((v2 ⊕ (v0 ⊗ 𝟘)) ⊖ (v2 ⊕ (v1 ⊗ 𝟘))) ((v0 ⊖ v1) ⊗ 𝟘) refl
  horner-quotient r c a (b ∷ p) =
      combine R (r ∷ c ∷ a ∷ horner R r (b ∷ p) ∷ horner R c (b ∷ p) ∷ horner R r (quotient c p) ∷ [])
      ((v2 ⊕ (v0 ⊗ v3)) ⊖ (v2 ⊕ (v1 ⊗ v4))) ((v0 ⊖ v1) ⊗ (v4 ⊕ (v0 ⊗ v5)))
      v0 (v3 ⊖ v4) ((v0 ⊖ v1) ⊗ v5) (horner-quotient r c b p) refl

  -- where a + c v and v are zero, a is zero
  first_zero : (a c v : A) → sum a (product c v) ≡ R.zero → v ≡ R.zero → a ≡ R.zero
  first_zero a c v h k = combine2 R (a ∷ c ∷ v ∷ []) v0 𝟘 𝟙 (v0 ⊕ (v1 ⊗ v2)) 𝟘 (minus v1) v2 𝟘 h k refl

  -- where the quotient is zero, so are the value at c and every coefficient
  quotient-zero : (c : A) (p : List A) → IsZeroPolynomial R (quotient c p) → (horner R c p ≡ R.zero) × IsZeroPolynomial R p
  quotient-zero c [] h = (refl, All-nil (λ a. a ≡ R.zero))
  quotient-zero c (a ∷ p) h =
      let here : horner R c (a ∷ p) ≡ R.zero = All-head (λ a. a ≡ R.zero) (horner R c (a ∷ p)) (quotient c p) h in
      let rest : (horner R c p ≡ R.zero) × IsZeroPolynomial R p = quotient-zero c p (All-tail (λ a. a ≡ R.zero) (horner R c (a ∷ p)) (quotient c p) h) in
      (here, All-cons (λ a. a ≡ R.zero) a p (first_zero a c (horner R c p) here rest.0) rest.1)

module _ {A : Type 0} (F : Field A) where
  open F use {sum, negative, product, inverse, ring as R}

  -- a field has no divisors of zero
  pub no_zero_divisors : (a b : A) → a ≢ F.zero → product a b ≡ F.zero → b ≡ F.zero
  no_zero_divisors a b h k =
      combine2 R (a ∷ b ∷ inverse a ∷ []) v1 𝟘 v2 (v0 ⊗ v1) 𝟘 (minus v1) (v0 ⊗ v2) 𝟙 k (F.product_inverse a h) refl

  pub product-nonzero : (a b : A) → a ≢ F.zero → b ≢ F.zero → product a b ≢ F.zero
  product-nonzero a b h k e = k (no_zero_divisors a b h e)

  -- what is not zero may be divided by
  pub product-cancel_right : (a b c : A) → c ≢ F.zero → product a c ≡ product b c → a ≡ b
  product-cancel_right a b c h e =
      combine2 R (a ∷ b ∷ c ∷ inverse c ∷ []) v0 v1 v3 (v0 ⊗ v2) (v1 ⊗ v2) (v1 ⊖ v0) (v2 ⊗ v3) 𝟙 e (F.product_inverse c h) refl

  pub difference-nonzero : (x y : A) → x ≢ y → sum x (negative y) ≢ F.zero
  difference-nonzero x y h k = h (difference-zero R x y k)

  horner-roots : (xs p : List A) → length p ≤ length xs → AreDistinct xs → All (λ x. horner R x p ≡ F.zero) xs → IsZeroPolynomial R p
  horner-roots xs [] l d h = All-nil (λ a. a ≡ F.zero)
  horner-roots [] (a ∷ p) l d h = absurd (omega arith)
  horner-roots (c ∷ xs) (a ∷ p) l d h =
      let root : (x : A) → c ≢ x → horner R x (a ∷ p) ≡ F.zero → horner R x (quotient R c p) ≡ F.zero =
      λ x apart is_root. no_zero_divisors (sum x (negative c)) (horner R x (quotient R c p)) (difference-nonzero x c (λ e. apart (sym e)))
      (sym (horner-quotient R x c a p) ∙ ap₂ (λ u v. sum u (negative v)) is_root (All-head (λ x. horner R x (a ∷ p) ≡ F.zero) c xs h) ∙ F.sum_negative F.zero) in
      let below : IsZeroPolynomial R (quotient R c p) =
      horner-roots xs (quotient R c p) (omega (arith, length-quotient R c p)) (AreApart-tail (λ (x y : A). x ≡ y) c xs d)
      (λ k e m. root (get_or xs k e) (AreApart-head (λ (x y : A). x ≡ y) c xs d k e m) (All-tail (λ x. horner R x (a ∷ p) ≡ F.zero) c xs h k e m)) in
      let rest : (horner R c p ≡ F.zero) × IsZeroPolynomial R p = quotient-zero R c p below in
      All-cons (λ a. a ≡ F.zero) a p (first_zero R a c (horner R c p) (All-head (λ x. horner R x (a ∷ p) ≡ F.zero) c xs h) rest.0) rest.1

  -- a polynomial with as many distinct roots as coefficients is zero
  pub IsZeroPolynomial-from_roots : (xs p : List A) → length p ≤ length xs → AreDistinct xs → All (λ x. value R x p ≡ F.zero) xs → IsZeroPolynomial R p
  IsZeroPolynomial-from_roots xs p l d h = horner-roots xs p l d (λ k e m. sym (value-horner R (get_or xs k e) p) ∙ h k e m)

  -- m coefficients, not all zero, take the value zero at no more than m - 1 distinct points
  pub few_roots : (p xs : List A) → (IsZeroPolynomial R p → ⊥) → AreDistinct xs → All (λ x. value R x p ≡ F.zero) xs → length xs ≤ length p - 1
  few_roots p xs n d h =
      elim (cases_lt (length xs) (length p)) [ inl l ↦ omega arith | inr g ↦ absurd (n (IsZeroPolynomial-from_roots xs p g d h)) ]

  -- two lists of at most n coefficients that agree at n distinct points are equal place by place
  pub agreement : (xs p q : List A) → length p ≤ length xs → length q ≤ length xs → AreDistinct xs → All (λ x. value R x p ≡ value R x q) xs → HaveSameCoefficients R p q
  agreement xs p q l m d h =
      HaveSameCoefficients-from_difference R p q
      (IsZeroPolynomial-from_roots xs (polynomial_difference R p q) (omega (arith, length-difference F.sum F.negative p q)) d
      (λ k e n. value-difference R (get_or xs k e) p q ∙ ap (λ u. sum u (negative (value R (get_or xs k e) q))) (h k e n) ∙ F.sum_negative (value R (get_or xs k e) q)))

  -- and so they have the same value everywhere
  pub value-agreement : (xs p q : List A) → length p ≤ length xs → length q ≤ length xs → AreDistinct xs → All (λ x. value R x p ≡ value R x q) xs → (r : A) → value R r p ≡ value R r q
  value-agreement xs p q l m d h r = value-HaveSameCoefficients R r p q (agreement xs p q l m d h)
