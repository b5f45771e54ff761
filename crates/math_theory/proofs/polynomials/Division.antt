-- Division of polynomials with remainder: one step of it, that there is a quotient and a remainder, and that there is one only.
use Rattle.std.proofs.Common.{◌≡◌, ◌≢◌, ℕ, zero, suc, ◌+◌, ◌-◌, ◌<◌, ◌≤◌, List, [], ◌∷◌, ◌++◌, length, inl, inr, refl, sym, ◌∙◌, ap, ap₂, subst, arith}
use Rattle.std.proofs.lemmas.Bool.{cases_lt}
use Rattle.std.proofs.lemmas.List.{get_or_past}
use Rattle.math_theory.specs.Division.{moved_up}
use Rattle.math_theory.specs.OverRing.{coefficient, polynomial_difference, polynomial_multiple, polynomial_product, HaveSameCoefficients, HasExactDegree, IsDivision, IsDividedDownTo}
use Rattle.math_theory.specs.Rings.{CommutativeRing, Field}
use Rattle.math_theory.proofs.polynomials.Coefficients.{coefficient-sum, coefficient-multiple, coefficient-difference}
use Rattle.math_theory.proofs.polynomials.Products.{IsZeroFrom, first-product, next-product, product-leading, product-of_difference, product-respects, factor-zero}
use Rattle.math_theory.proofs.rings.Normal.{ring, combine, combine2, combine3, ◌⊕◌, ◌⊗◌, ◌⊖◌, minus, 𝟘, 𝟙, v0, v1, v2, v3, v4}
use Rattle.math_theory.proofs.rings.RingLaws.{sum-zero_right, product-zero, difference-zero}

module _ {A : Type 0} (R : CommutativeRing A) where
  open R use {sum, negative, product}

  abbrev pub raised : ℕ → List A → List A
  raised i p = moved_up R.zero i p

  pub raised-below : (i j : ℕ) (p : List A) → j < i → coefficient R (raised i p) j ≡ R.zero
  raised-below zero j p l = absurd (omega arith)
  raised-below (suc i) zero p l = refl
  raised-below (suc i) (suc j) p l = raised-below i j p (omega arith)

  pub raised-above : (i j : ℕ) (p : List A) → coefficient R (raised i p) (i + j) ≡ coefficient R p j
  raised-above zero j p = let e : 0 + j ≡ j = omega arith in ap (coefficient R p) e
  raised-above (suc i) j p = let e : suc i + j ≡ suc (i + j) = omega arith in ap (coefficient R (raised (suc i) p)) e ∙ raised-above i j p

  raised-next : (i j : ℕ) (p : List A) → coefficient R (raised (suc i) p) (i + j) ≡ coefficient R (R.zero ∷ p) j
  raised-next zero j p = let e : 0 + j ≡ j = omega arith in ap (coefficient R (R.zero ∷ p)) e
  raised-next (suc i) j p = let e : suc i + j ≡ suc (i + j) = omega arith in ap (coefficient R (raised (suc (suc i)) p)) e ∙ raised-next i j p

  -- coefficient t of (c + X q) d
  coefficient-of_product : (c : A) (q d : List A) (t : ℕ)
      → coefficient R (polynomial_product R (c ∷ q) d) t ≡ sum (product (coefficient R d t) c) (coefficient R (R.zero ∷ polynomial_product R q d) t)
  coefficient-of_product c q d zero = first-product R c q d ∙ sym (sum-zero_right R (product (coefficient R d 0) c))
  coefficient-of_product c q d (suc t) = next-product R c q d t

  -- one coefficient more at the end of the first factor
  pub product-pushed : (q d : List A) (c : A) (i : ℕ)
      → coefficient R (polynomial_product R (q ++ (c ∷ [])) d) i
      ≡ sum (coefficient R (polynomial_product R q d) i) (coefficient R (raised (length q) (polynomial_multiple R d c)) i)
  product-pushed [] d c i =
      coefficient-sum R (polynomial_multiple R d c) (R.zero ∷ []) i
      ∙ ap (sum (coefficient R (polynomial_multiple R d c) i)) (no_coefficient i)
      ∙ R.sum_comm (coefficient R (polynomial_multiple R d c) i) R.zero
    where
      no_coefficient : (i : ℕ) → coefficient R (R.zero ∷ []) i ≡ R.zero
      no_coefficient zero = refl
      no_coefficient (suc i) = refl
  product-pushed (a ∷ q) d c zero =
      first-product R a (q ++ (c ∷ [])) d
      ∙ sym (sum-zero_right R (product (coefficient R d 0) a))
      ∙ ap (λ x. sum x R.zero) (sym (first-product R a q d))
  product-pushed (a ∷ q) d c (suc i) =
      next-product R a (q ++ (c ∷ [])) d i
      ∙ ap (sum (product (coefficient R d (suc i)) a)) (product-pushed q d c i)
      ∙ sym (R.sum_assoc (product (coefficient R d (suc i)) a) (coefficient R (polynomial_product R q d) i) (coefficient R (raised (length q) (polynomial_multiple R d c)) i))
      ∙ ap (λ x. sum x (coefficient R (raised (length q) (polynomial_multiple R d c)) i)) (sym (next-product R a q d i))

  -- at the beginning nothing is divided
  pub division-begun : (i : ℕ) (p d : List A) → IsDividedDownTo R i p d [] p
  division-begun i p d j = sym (coefficient-sum R (raised i []) p j ∙ ap (λ x. sum x (coefficient R p j)) (nothing i j) ∙ R.sum_zero (coefficient R p j))
    where
      nothing : (i j : ℕ) → coefficient R (raised i []) j ≡ R.zero
      nothing zero j = refl
      nothing (suc i) zero = refl
      nothing (suc i) (suc j) = nothing i j

  -- one step: c times d is taken away i places up, where d_n c is coefficient i + n of what is left
  pub division-step : (i n : ℕ) (p d q rest rest' : List A) (c : A)
      → IsZeroFrom R d (suc n) → IsZeroFrom R rest (suc (i + n)) → IsZeroFrom R rest' (i + n)
      → product (coefficient R d n) c ≡ coefficient R rest (i + n)
      → ((j : ℕ) → j < i → coefficient R rest' j ≡ coefficient R rest j)
      → ((j : ℕ) → j < n → coefficient R rest' (i + j) ≡ sum (coefficient R rest (i + j)) (negative (product (coefficient R d j) c)))
      → IsDividedDownTo R (suc i) p d q rest → IsDividedDownTo R i p d (c ∷ q) rest'
  division-step i n p d q rest rest' c above long long' h low high H j =
      H j ∙ coefficient-sum R (raised (suc i) (polynomial_product R q d)) rest j
      ∙ elim (cases_lt j i) [
        | inl l ↦ lower j l
        | inr g ↦ (let e : i + (j - i) ≡ j = omega (arith, g) in
            subst (λ j. sum (coefficient R (raised (suc i) (polynomial_product R q d)) j) (coefficient R rest j)
            ≡ sum (coefficient R (raised i (polynomial_product R (c ∷ q) d)) j) (coefficient R rest' j)) e (upper (j - i)))
      ]
      ∙ sym (coefficient-sum R (raised i (polynomial_product R (c ∷ q) d)) rest' j)
    where
      lower : (j : ℕ) → j < i → sum (coefficient R (raised (suc i) (polynomial_product R q d)) j) (coefficient R rest j)
          ≡ sum (coefficient R (raised i (polynomial_product R (c ∷ q) d)) j) (coefficient R rest' j)
      lower j l = ap₂ sum (raised-below (suc i) j (polynomial_product R q d) (omega arith) ∙ sym (raised-below i j (polynomial_product R (c ∷ q) d) l)) (sym (low j l))

      -- what is taken away at place t
      taken : (t : ℕ) → coefficient R rest (i + t) ≡ sum (product (coefficient R d t) c) (coefficient R rest' (i + t))
      taken t =
          elim (cases_lt t n) [
            | inl l ↦ combine R (coefficient R rest (i + t) ∷ coefficient R d t ∷ c ∷ coefficient R rest' (i + t) ∷ []) v0 ((v1 ⊗ v2) ⊕ v3) (minus 𝟙) v3 (v0 ⊖ (v1 ⊗ v2)) (high t l) refl
            | inr g ↦ elim (cases_lt n t) [
              | inl l ↦ combine3 R (coefficient R rest (i + t) ∷ coefficient R d t ∷ c ∷ coefficient R rest' (i + t) ∷ []) v0 ((v1 ⊗ v2) ⊕ v3)
                  𝟙 v0 𝟘 (minus v2) v1 𝟘 (minus 𝟙) v3 𝟘 (long (i + t) (omega (arith, l))) (above t (omega (arith, l))) (long' (i + t) (omega (arith, l))) refl
              | inr k ↦ (let e : n ≡ t = omega (arith, g, k) in
                  combine2 R (coefficient R rest (i + t) ∷ coefficient R d t ∷ c ∷ coefficient R rest' (i + t) ∷ []) v0 ((v1 ⊗ v2) ⊕ v3)
                  (minus 𝟙) (v1 ⊗ v2) v0 (minus 𝟙) v3 𝟘
                  (subst (λ t. product (coefficient R d t) c ≡ coefficient R rest (i + t)) e h) (long' (i + t) (omega (arith, e))) refl)
            ]
          ]

      upper : (t : ℕ) → sum (coefficient R (raised (suc i) (polynomial_product R q d)) (i + t)) (coefficient R rest (i + t))
          ≡ sum (coefficient R (raised i (polynomial_product R (c ∷ q) d)) (i + t)) (coefficient R rest' (i + t))
      upper t =
          ap₂ sum (raised-next i t (polynomial_product R q d)) (taken t)
          ∙ ring R (coefficient R (R.zero ∷ polynomial_product R q d) t ∷ product (coefficient R d t) c ∷ coefficient R rest' (i + t) ∷ []) (v0 ⊕ (v1 ⊕ v2)) ((v1 ⊕ v0) ⊕ v2) refl
          ∙ ap (λ x. sum x (coefficient R rest' (i + t))) (sym (raised-above i t (polynomial_product R (c ∷ q) d) ∙ coefficient-of_product c q d t))

  pub division-ended : (n : ℕ) (p d q rest : List A) → IsZeroFrom R rest n → IsDividedDownTo R 0 p d q rest → IsDivision R n p d q rest
  division-ended n p d q rest h e = record { gives = e; below = h }

  -- where p is q d + r, coefficient i of q d is that of p less that of r
  pub product-from_division : (n : ℕ) (p d q r : List A) → IsDivision R n p d q r → (i : ℕ)
      → coefficient R (polynomial_product R q d) i ≡ sum (coefficient R p i) (negative (coefficient R r i))
  product-from_division n p d q r h i =
      sym (combine R (coefficient R p i ∷ coefficient R r i ∷ coefficient R (polynomial_product R q d) i ∷ []) (v0 ⊖ v1) v2 𝟙 v0 (v2 ⊕ v1)
      (h.gives i ∙ coefficient-sum R (polynomial_product R q d) r i) refl)

module _ {A : Type 0} (F : Field A) where
  open F use {sum, negative, product, inverse, ring as R}

  -- quotient and remainder are the only ones
  pub division-only : (n : ℕ) (p d q r q' r' : List A) → HasExactDegree R d n → IsDivision R n p d q r → IsDivision R n p d q' r'
      → HaveSameCoefficients R q' q × HaveSameCoefficients R r' r
  division-only n p d q r q' r' degree h k =
      let zero_from : IsZeroFrom R (polynomial_difference R q' q) 0 =
      factor-zero F (polynomial_difference R q' q) d n degree.leading (λ i l. degree.above i (omega arith))
      (λ i l. product-of_difference R q' q d i
      ∙ ap₂ (λ x y. sum x (negative y)) (product-from_division R n p d q' r' k i) (product-from_division R n p d q r h i)
      ∙ combine2 R (coefficient R p i ∷ coefficient R r' i ∷ coefficient R r i ∷ []) ((v0 ⊖ v1) ⊖ (v0 ⊖ v2)) 𝟘 (minus 𝟙) v1 𝟘 𝟙 v2 𝟘 (k.below i l) (h.below i l) refl) in
      let same_quotients : HaveSameCoefficients R q' q =
      λ i. difference-zero R (coefficient R q' i) (coefficient R q i) (sym (coefficient-difference R q' q i) ∙ zero_from i (omega arith)) in (
        same_quotients,
        λ i. combine3 R (coefficient R p i ∷ coefficient R r i ∷ coefficient R r' i ∷ coefficient R (polynomial_product R q d) i ∷ coefficient R (polynomial_product R q' d) i ∷ []) v2 v1
            𝟙 (v0 ⊖ v1) v3 (minus 𝟙) (v0 ⊖ v2) v4 (minus 𝟙) v4 v3
            (sym (product-from_division R n p d q r h i)) (sym (product-from_division R n p d q' r' k i)) (product-respects R q' q d same_quotients i) refl,
      )

  -- and there are such
  division-from : (i n : ℕ) (p d q rest : List A) → HasExactDegree R d n → IsZeroFrom R rest (i + n) → IsDividedDownTo R i p d q rest
      → (q : List A) × (r : List A) × IsDivision R n p d q r
  division-from zero n p d q rest degree h e = (q, rest, division-ended R n p d q rest (λ j l. h j (omega (arith, l))) e)
  division-from (suc i) n p d q rest degree h e =
      let c : A = product (inverse (coefficient R d n)) (coefficient R rest (i + n)) in
      let taken : List A = moved_up F.zero i (polynomial_multiple R d c) in
      let left : List A = polynomial_difference R rest taken in
      let leads : product (coefficient R d n) c ≡ coefficient R rest (i + n) =
      combine R (coefficient R d n ∷ inverse (coefficient R d n) ∷ coefficient R rest (i + n) ∷ []) (v0 ⊗ (v1 ⊗ v2)) v2 v2 (v0 ⊗ v1) 𝟙
      (F.product_inverse (coefficient R d n) degree.leading) refl in
      let high : (j : ℕ) → coefficient R left (i + j) ≡ sum (coefficient R rest (i + j)) (negative (product (coefficient R d j) c)) =
      λ j. coefficient-difference R rest taken (i + j)
      ∙ ap (λ x. sum (coefficient R rest (i + j)) (negative x)) (raised-above R i j (polynomial_multiple R d c) ∙ coefficient-multiple R d c j) in
      let low : (j : ℕ) → j < i → coefficient R left j ≡ coefficient R rest j =
      λ j l. coefficient-difference R rest taken j ∙ ap (λ x. sum (coefficient R rest j) (negative x)) (raised-below R i j (polynomial_multiple R d c) l)
      ∙ ring R (coefficient R rest j ∷ []) (v0 ⊖ 𝟘) v0 refl in
      let none_at : (t : ℕ) → n ≤ t → coefficient R left (i + t) ≡ F.zero =
      λ t l. high t ∙ elim (cases_lt n t) [
        | inl m ↦ combine2 R (coefficient R rest (i + t) ∷ coefficient R d t ∷ c ∷ []) (v0 ⊖ (v1 ⊗ v2)) 𝟘 𝟙 v0 𝟘 (minus v2) v1 𝟘
            (h (i + t) (omega (arith, m))) (degree.above t m) refl
        | inr g ↦ (let e : n ≡ t = omega (arith, l, g) in
            subst (λ t. sum (coefficient R rest (i + t)) (negative (product (coefficient R d t) c)) ≡ F.zero) e
            (ap (λ x. sum (coefficient R rest (i + n)) (negative x)) leads ∙ F.sum_negative (coefficient R rest (i + n))))
      ] in
      let none : IsZeroFrom R left (i + n) =
      λ j l. let e : i + (j - i) ≡ j = omega (arith, l) in subst (λ j. coefficient R left j ≡ F.zero) e (none_at (j - i) (omega (arith, l))) in
      division-from i n p d (c ∷ q) left degree none
      (division-step R i n p d q rest left c (λ j l. degree.above j (omega (arith, l))) (λ j l. h j (omega (arith, l))) none leads low (λ j l. high j) e)

  pub division-exists : (n : ℕ) (p d : List A) → HasExactDegree R d n → (q : List A) × (r : List A) × IsDivision R n p d q r
  division-exists n p d degree =
      division-from (length p) n p d [] p degree (λ j l. get_or_past p j F.zero (omega (arith, l))) (division-begun R (length p) p d)

  -- the quotient of a polynomial of exact degree a by one of exact degree b has exact degree a - b
  pub quotient-leading : (a b : ℕ) (p d q r : List A) → b ≤ a → HasExactDegree R p a → HasExactDegree R d b → IsDivision R b p d q r → IsZeroFrom R q (suc (a - b))
      → coefficient R q (a - b) ≢ F.zero
  quotient-leading a b p d q r l degree degree' h short e =
      let n : (a - b) + b ≡ a = omega (arith, l) in
      degree.leading
      (combine2 R (coefficient R p a ∷ coefficient R r a ∷ []) v0 𝟘 𝟙 (v0 ⊖ v1) 𝟘 𝟙 v1 𝟘
      (sym (product-from_division R b p d q r h a) ∙ ap (coefficient R (polynomial_product R q d)) (sym n)
      ∙ product-leading R q d (a - b) b short (λ i l. degree'.above i (omega (arith, l)))
      ∙ ap (product (coefficient R d b)) e ∙ product-zero R (coefficient R d b))
      (h.below a l) refl)
