-- Products of differences from the roots of joined and of scaled lists, and from all points of a domain.
use Rattle.std.proofs.Common.{◌≡◌, ◌≢◌, ℕ, zero, suc, ◌^◌, List, [], ◌∷◌, ◌++◌, length, map, refl, sym, ◌∙◌, ap, ap₂}
use Rattle.math_theory.specs.Rings.{CommutativeRing, Field}
use Rattle.math_theory.specs.Powers.{power-zero, power-suc}
use Rattle.math_theory.specs.OverRing.{power, powers, root_product}
use Rattle.math_theory.specs.DomainsOverRing.{IsPrincipalRoot, VanishesAt}
use Rattle.math_theory.proofs.rings.Normal.{ring, combine, combine2, ◌⊗◌, ◌⊖◌, minus, 𝟙, v0, v1, v2, v3, v4, v5, v6}
use Rattle.math_theory.proofs.rings.PowerLaws.{power-add, power-product, power-of_one}
use Rattle.math_theory.proofs.domains.PowerLists.{powers-squared, powers-halves}
use Rattle.math_theory.proofs.domains.RootOrders.{power_of_two-suc, IsPrincipalRoot-square}
use Rattle.math_theory.proofs.polynomials.Roots.{product-nonzero}
use Rattle.math_theory.proofs.rings.RingLaws.{product-zero}

module _ {A : Type 0} (R : CommutativeRing A) where
  open R use {sum, negative, product}

  pub root_product-append : (r : A) (xs ys : List A) → root_product R r (xs ++ ys) ≡ product (root_product R r xs) (root_product R r ys)
  root_product-append r [] ys = sym (R.product_one (root_product R r ys))
  root_product-append r (x ∷ xs) ys =
      ap (product (sum r (negative x))) (root_product-append r xs ys) ∙ sym (R.product_assoc (sum r (negative x)) (root_product R r xs) (root_product R r ys))

  -- where s s' is one: the roots times s, at r, are the roots at s' r, times s for each of them
  pub root_product-scaled : (r s s' : A) → product s s' ≡ R.one → (xs : List A) → root_product R r (map (product s) xs) ≡ product (power R s (length xs)) (root_product R (product s' r) xs)
  root_product-scaled r s s' h [] = sym (ap (λ x. product x R.one) (power-zero R.one product s) ∙ R.product_one R.one)
  root_product-scaled r s s' h (x ∷ xs) =
      combine2 R (power R s (length xs) ∷ s ∷ s' ∷ r ∷ x ∷ root_product R (product s' r) xs ∷ root_product R r (map (product s) xs) ∷ [])
      ((v3 ⊖ (v1 ⊗ v4)) ⊗ v6) ((v0 ⊗ v1) ⊗ (((v2 ⊗ v3) ⊖ v4) ⊗ v5))
      (v3 ⊖ (v1 ⊗ v4)) v6 (v0 ⊗ v5)
      (minus (v3 ⊗ (v0 ⊗ v5))) (v1 ⊗ v2) 𝟙
      (root_product-scaled r s s' h xs) h refl
      ∙ ap (λ y. product y (product (sum (product s' r) (negative x)) (root_product R (product s' r) xs))) (sym (power-suc R.one product s (length xs)))

  -- some roots and their negatives: (r - x) (r + x) is r² - x²
  pub root_product-negatives : (r : A) (ps : List A) → product (root_product R r ps) (root_product R r (map negative ps)) ≡ root_product R (product r r) (map (λ p. product p p) ps)
  root_product-negatives r [] = R.product_one R.one
  root_product-negatives r (p ∷ ps) =
      combine R (r ∷ p ∷ root_product R r ps ∷ root_product R r (map negative ps) ∷ root_product R (product r r) (map (λ p. product p p) ps) ∷ [])
      (((v0 ⊖ v1) ⊗ v2) ⊗ ((v0 ⊖ minus v1) ⊗ v3)) (((v0 ⊗ v0) ⊖ (v1 ⊗ v1)) ⊗ v4) ((v0 ⊗ v0) ⊖ (v1 ⊗ v1)) (v2 ⊗ v3) v4 (root_product-negatives r ps) refl

  -- over the whole domain of n points the product is r ^ n - 1
  pub root_product-powers : (lg : ℕ) (r w : A) → IsPrincipalRoot R lg w → root_product R r (powers R w (2 ^ lg)) ≡ sum (power R r (2 ^ lg)) (negative R.one)
  root_product-powers zero r w h =
      ap (λ x. product (sum r (negative x)) R.one) (power-zero R.one product w) ∙ ring R (r ∷ []) ((v0 ⊖ 𝟙) ⊗ 𝟙) ((𝟙 ⊗ v0) ⊖ 𝟙) refl
      ∙ ap (λ x. sum (product x r) (negative R.one)) (sym (power-zero R.one product r)) ∙ ap (λ x. sum x (negative R.one)) (sym (power-suc R.one product r 0))
  root_product-powers (suc lg) r w h =
      ap (root_product R r) (ap (powers R w) (power_of_two-suc lg) ∙ powers-halves R w (2 ^ lg) h)
      ∙ root_product-append r (powers R w (2 ^ lg)) (map negative (powers R w (2 ^ lg)))
      ∙ root_product-negatives r (powers R w (2 ^ lg))
      ∙ ap (root_product R (product r r)) (sym (powers-squared R w (2 ^ lg)))
      ∙ root_product-powers lg (product r r) (product w w) (IsPrincipalRoot-square R lg w h)
      ∙ ap (λ x. sum x (negative R.one)) (power-product R r r (2 ^ lg) ∙ sym (power-add R r (2 ^ lg) (2 ^ lg)) ∙ ap (power R r) (sym (power_of_two-suc lg)))

module _ {A : Type 0} (F : Field A) where
  open F use {sum, negative, product, ring as R}

  -- what has an inverse is not zero, nor is a power of it
  invertible-nonzero : (s s' : A) → product s s' ≡ F.one → s' ≢ F.zero
  invertible-nonzero s s' h e = F.one_apart (sym h ∙ ap (product s) e ∙ product-zero R s)

  pub power-nonzero : (s : A) (n : ℕ) → s ≢ F.zero → power R s n ≢ F.zero
  power-nonzero s zero h e = F.one_apart (sym (power-zero F.one product s) ∙ e)
  power-nonzero s (suc n) h e = product-nonzero F (power R s n) s (power-nonzero s n h) h (sym (power-suc F.one product s n) ∙ e)

  -- one polynomial times another at s' r vanishes at the roots of the first, and at those of the other times s
  pub VanishesAt-merged : (s s' : A) → product s s' ≡ F.one → (xs ys : List A) (u v : A → A) → VanishesAt R xs u → VanishesAt R ys v
      → VanishesAt R (xs ++ map (product s) ys) (λ r. product (u r) (v (product s' r)))
  VanishesAt-merged s s' h xs ys u v a b =
      let t = power R s' (length ys) in
      record {
        factor = product (product a.factor b.factor) t;
        factor_is_not_zero =
            product-nonzero F (product a.factor b.factor) t (product-nonzero F a.factor b.factor a.factor_is_not_zero b.factor_is_not_zero) (power-nonzero s' (length ys) (invertible-nonzero s s' h));
        gives = λ r.
            ap₂ product (a.gives r) (b.gives (product s' r))
            ∙ combine R (a.factor ∷ b.factor ∷ root_product R r xs ∷ root_product R (product s' r) ys ∷ power R s (length ys) ∷ t ∷ [])
            ((v0 ⊗ v2) ⊗ (v1 ⊗ v3)) (((v0 ⊗ v1) ⊗ v5) ⊗ (v2 ⊗ (v4 ⊗ v3))) (minus (((v0 ⊗ v1) ⊗ v2) ⊗ v3)) (v4 ⊗ v5) 𝟙
            (sym (power-product R s s' (length ys)) ∙ ap (λ x. power R x (length ys)) h ∙ power-of_one R (length ys)) refl
            ∙ ap (λ y. product (product (product a.factor b.factor) t) (product (root_product R r xs) y)) (sym (root_product-scaled R r s s' h ys))
            ∙ ap (product (product (product a.factor b.factor) t)) (sym (root_product-append R r xs (map (product s) ys)));
      }
