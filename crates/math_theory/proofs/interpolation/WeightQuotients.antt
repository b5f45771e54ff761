-- Lagrange's weights as quotients of products of differences.
use Rattle.std.proofs.Common.{◌≡◌, ◌≢◌, ℕ, zero, suc, ◌+◌, ◌-◌, ◌<◌, List, [], ◌∷◌, length, get_or, refl, sym, ◌∙◌, ap, arith}
use Rattle.std.proofs.lemmas.List.Edits.{length-remove, get_or-remove_above}
use Rattle.std.proofs.lemmas.List.Elements.{All-head, All-tail}
use Rattle.std.specs.List.{All, remove}
use Rattle.math_theory.specs.OverRing.{AreDistinct, root_product, lagrange_weight}
use Rattle.math_theory.specs.Rings.{CommutativeRing, Field}
use Rattle.math_theory.proofs.interpolation.Lagrange.{others-apart}
use Rattle.math_theory.proofs.rings.Normal.{combine, combine2, ◌⊗◌, ◌⊖◌, 𝟙, v0, v1, v2, v3, v4, v5, v6}
use Rattle.math_theory.proofs.polynomials.RootProducts.{root_product-at_root, root_product-nonzero}
use Rattle.math_theory.proofs.polynomials.Roots.{product-nonzero, product-cancel_right, difference-nonzero}

module _ {A : Type 0} (R : CommutativeRing A) where
  open R use {sum, negative, product}

  -- one root before the others
  pub root_product-remove : (x : A) (roots : List A) (k : ℕ) (d : A) → k < length roots → root_product R x roots ≡ product (sum x (negative (get_or roots k d))) (root_product R x (remove roots k))
  root_product-remove x [] k d l = absurd (omega arith)
  root_product-remove x (y ∷ roots) zero d l = refl
  root_product-remove x (y ∷ roots) (suc k) d l =
      combine R (x ∷ y ∷ get_or roots k d ∷ root_product R x roots ∷ root_product R x (remove roots k) ∷ [])
      ((v0 ⊖ v1) ⊗ v3) ((v0 ⊖ v2) ⊗ ((v0 ⊖ v1) ⊗ v4)) (v0 ⊖ v1) v3 ((v0 ⊖ v2) ⊗ v4) (root_product-remove x roots k d (omega arith)) refl

  -- where two points are equal, the product of the differences of the first from the others is zero
  pub root_product-of_repeated : (points : List A) (i j : ℕ) (d : A) → i < j → j < length points → get_or points i d ≡ get_or points j d → root_product R (get_or points i d) (remove points i) ≡ R.zero
  root_product-of_repeated points i j d l m e =
      let n : (j - 1) < length (remove points i) = omega (arith, length-remove points i (omega arith)) in
      let next : (j - 1) + 1 ≡ j = omega arith in
      let here : get_or (remove points i) (j - 1) d ≡ get_or points i d = get_or-remove_above points i d (j - 1) (omega arith) (omega arith) ∙ ap (λ k. get_or points k d) next ∙ sym e in
      ap (λ r. root_product R r (remove points i)) (sym here) ∙ root_product-at_root R (remove points i) (j - 1) d n

module _ {A : Type 0} (F : Field A) where
  open F use {sum, negative, product, inverse, ring as R}

  -- the weight of p, times the differences of p from the others, is the product of the differences of x from the others
  lagrange_weight-times : (x p : A) (others : List A) → All (λ y. p ≢ y) others → product (lagrange_weight F x p others) (root_product R p others) ≡ root_product R x others
  lagrange_weight-times x p [] h = F.product_one F.one
  lagrange_weight-times x p (y ∷ others) h =
      combine2 R (x ∷ y ∷ p ∷ inverse (sum p (negative y)) ∷ lagrange_weight F x p others ∷ root_product R p others ∷ root_product R x others ∷ [])
      ((((v0 ⊖ v1) ⊗ v3) ⊗ v4) ⊗ ((v2 ⊖ v1) ⊗ v5)) ((v0 ⊖ v1) ⊗ v6)
      (((v0 ⊖ v1) ⊗ v4) ⊗ v5) ((v2 ⊖ v1) ⊗ v3) 𝟙
      (v0 ⊖ v1) (v4 ⊗ v5) v6
      (F.product_inverse (sum p (negative y)) (difference-nonzero F p y (All-head (λ y. p ≢ y) y others h)))
      (lagrange_weight-times x p others (All-tail (λ y. p ≢ y) y others h)) refl

  -- the divisor of point k is not zero, where x is another point
  pub divisor-nonzero : (x : A) (points : List A) (k : ℕ) → AreDistinct points → k < length points → x ≢ get_or points k F.zero
      → product (sum x (negative (get_or points k F.zero))) (root_product R (get_or points k F.zero) (remove points k)) ≢ F.zero
  divisor-nonzero x points k d l n =
      let p = get_or points k F.zero in
      product-nonzero F (sum x (negative p)) (root_product R p (remove points k)) (difference-nonzero F x p n) (root_product-nonzero F p (remove points k) (others-apart F points k d l))

  -- Lagrange's weight is the only one that gives the product of all differences of x, times those of point k with x in the place of the point
  pub lagrange_weight-quotient : (x : A) (points : List A) (k : ℕ) (w : A) → AreDistinct points → k < length points → x ≢ get_or points k F.zero
      → product w (product (sum x (negative (get_or points k F.zero))) (root_product R (get_or points k F.zero) (remove points k))) ≡ root_product R x points
      → w ≡ lagrange_weight F x (get_or points k F.zero) (remove points k)
  lagrange_weight-quotient x points k w d l n h =
      let p = get_or points k F.zero in
      let others = remove points k in
      let apart : All (λ y. p ≢ y) others = others-apart F points k d l in
      let divisor : A = product (sum x (negative p)) (root_product R p others) in
      let formula : product (lagrange_weight F x p others) divisor ≡ product (sum x (negative p)) (root_product R x others) =
      combine R (x ∷ p ∷ lagrange_weight F x p others ∷ root_product R p others ∷ root_product R x others ∷ [])
      (v2 ⊗ ((v0 ⊖ v1) ⊗ v3)) ((v0 ⊖ v1) ⊗ v4) (v0 ⊖ v1) (v2 ⊗ v3) v4 (lagrange_weight-times x p others apart) refl in
      product-cancel_right F w (lagrange_weight F x p others) divisor (divisor-nonzero x points k d l n) (h ∙ root_product-remove R x points k F.zero l ∙ sym formula)
