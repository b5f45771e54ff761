-- For each point of a domain of 2 ^ lg points, the product of its differences from the other points, times the point, is 2 ^ lg.
use Rattle.std.proofs.Common.{◌≡◌, ℕ, zero, suc, ◌+◌, ◌-◌, ◌<◌, ◌^◌, List, [], ◌∷◌, ◌++◌, length, map, get_or, take, drop, inl, inr, refl, sym, ◌∙◌, ap, ap₂, arith}
use Rattle.std.proofs.lemmas.Bool.{cases_lt}
use Rattle.std.proofs.lemmas.List as Lists
use Rattle.std.proofs.lemmas.List.{length-map, get_or-map}
use Rattle.std.proofs.lemmas.List.Edits.{remove-append_left, remove-append_right}
use Rattle.std.specs.List.{remove}
use Rattle.math_theory.specs.Rings.{CommutativeRing}
use Rattle.math_theory.specs.Powers.{power-zero, power-suc}
use Rattle.math_theory.specs.OverRing.{power, powers, root_product}
use Rattle.math_theory.specs.DomainsOverRing.{IsPrincipalRoot}
use Rattle.math_theory.proofs.domains.DomainPoints.{length-powers, get_or-powers}
use Rattle.math_theory.proofs.rings.Normal.{ring, combine, combine2, ◌⊕◌, ◌⊗◌, ◌⊖◌, minus, 𝟙, v0, v1, v2, v3, v4}
use Rattle.math_theory.proofs.rings.PowerLaws.{power-product}
use Rattle.math_theory.proofs.domains.PowerLists.{powers-squared, powers-halves, power-after_minus_one}
use Rattle.math_theory.proofs.domains.RootOrders.{power_of_two-suc, IsPrincipalRoot-square}
use Rattle.math_theory.proofs.domains.RootProductLists.{root_product-append, root_product-negatives}
use Rattle.math_theory.proofs.interpolation.WeightQuotients.{root_product-remove}

pub remove-map : {A B : Type 0} (f : A → B) (xs : List A) (i : ℕ) → remove (map f xs) i ≡ map f (remove xs i)
remove-map f xs i = ap₂ (λ x y. x ++ y) (Lists.take-map f i xs) (Lists.drop-map f (suc i) xs) ∙ sym (Lists.map-append f (take i xs) (drop (suc i) xs))

module _ {A : Type 0} (R : CommutativeRing A) where
  open R use {sum, negative, product}

  abbrev square : A → A
  square x = product x x

  module _ (xs : List A) (k : ℕ) (q : A) (l : k < length xs) (e : get_or xs k R.zero ≡ q) where
    -- some points and their negatives, without the point q at place k of the first: at q these are 2 q times the differences of the squares
    removed-negatives_left : product (root_product R q (remove xs k)) (root_product R q (map negative xs)) ≡ product (sum q q) (root_product R (product q q) (remove (map square xs) k))
    removed-negatives_left =
        combine2 R (q ∷ root_product R q (remove xs k) ∷ root_product R q (map negative xs) ∷ root_product R q (map negative (remove xs k)) ∷ root_product R (product q q)
        (remove (map square xs) k) ∷ [])
        (v1 ⊗ v2) ((v0 ⊕ v0) ⊗ v4)
        v1 v2 ((v0 ⊖ minus v0) ⊗ v3)
        (v0 ⊕ v0) (v1 ⊗ v3) v4
        (root_product-remove R q (map negative xs) k R.zero (omega (arith, length-map xs negative))
        ∙ ap₂ (λ x ys. product (sum q (negative x)) (root_product R q ys)) (get_or-map negative xs k R.zero R.zero l ∙ ap negative e) (remove-map negative xs k))
        (root_product-negatives R q (remove xs k) ∙ ap (root_product R (product q q)) (sym (remove-map square xs k))) refl

    -- the same at the negative of q, which is left out of the negatives
    removed-negatives_right : product (root_product R (negative q) xs) (root_product R (negative q) (remove (map negative xs) k))
        ≡ product (negative (sum q q)) (root_product R (product q q) (remove (map square xs) k))
    removed-negatives_right =
        let p = negative q in
        ap₂ product
        (root_product-remove R p xs k R.zero l ∙ ap (λ x. product (sum p (negative x)) (root_product R p (remove xs k))) e)
        (ap (root_product R p) (remove-map negative xs k))
        ∙ combine R (q ∷ root_product R p (remove xs k) ∷ root_product R p (map negative (remove xs k)) ∷ root_product R (product q q) (remove (map square xs) k) ∷ [])
        (((minus v0 ⊖ v0) ⊗ v1) ⊗ v2) (minus (v0 ⊕ v0) ⊗ v3)
        (minus (v0 ⊕ v0)) (v1 ⊗ v2) v3
        (root_product-negatives R p (remove xs k)
        ∙ ap₂ (root_product R) (ring R (q ∷ []) (minus v0 ⊗ minus v0) (v0 ⊗ v0) refl) (sym (remove-map square xs k))) refl

  -- the number of points in the ring: 1 + 1 to the power lg
  abbrev pub size : ℕ → A
  size lg = power R (sum R.one R.one) lg

  pub removed_product-point : (lg : ℕ) (w : A) → IsPrincipalRoot R lg w → (i : ℕ) → i < 2 ^ lg → product (root_product R (power R w i) (remove (powers R w (2 ^ lg)) i)) (power R w i) ≡ size lg
  removed_product-point zero w h zero l = R.product_one (power R w 0) ∙ power-zero R.one product w ∙ sym (power-zero R.one product (sum R.one R.one))
  removed_product-point zero w h (suc i) l = absurd (omega arith)
  removed_product-point (suc lg) w h i l =
      let n = 2 ^ lg in
      let double : 2 ^ suc lg ≡ n + n = power_of_two-suc lg in
      let xs = powers R w n in
      let count : length xs ≡ n = length-powers R w n in
      let halves : powers R w (2 ^ suc lg) ≡ xs ++ map negative xs = ap (powers R w) double ∙ powers-halves R w n h in
      let squares : map square xs ≡ powers R (product w w) n = sym (powers-squared R w n) in
      let below : (k : ℕ) → k < n → product (root_product R (product (power R w k) (power R w k)) (remove (map square xs) k)) (product (power R w k) (power R w k)) ≡ size lg =
      λ k m.
      ap₂ (λ x ys. product (root_product R x (remove ys k)) x) (sym (power-product R w w k)) squares
      ∙ removed_product-point lg (product w w) (IsPrincipalRoot-square R lg w h) k m in
      elim (cases_lt i n) [
        | inl m ↦
            let q = power R w i in
            ap (λ ys. product (root_product R q ys) q) (ap (λ ys. remove ys i) halves ∙ remove-append_left xs (map negative xs) i (omega arith))
            ∙ ap (λ x. product x q) (root_product-append R q (remove xs i) (map negative xs) ∙ removed-negatives_left xs i q (omega arith) (get_or-powers R w n i R.zero m))
            ∙ combine R (q ∷ root_product R (product q q) (remove (map square xs) i) ∷ size lg ∷ [])
            (((v0 ⊕ v0) ⊗ v1) ⊗ v0) (v2 ⊗ (𝟙 ⊕ 𝟙)) (𝟙 ⊕ 𝟙) (v1 ⊗ (v0 ⊗ v0)) v2 (below i m) refl
            ∙ sym (power-suc R.one product (sum R.one R.one) lg)
        | inr m ↦
            let k = i - n in
            let q = power R w k in
            let b : k < n = omega arith in
            let p : power R w i ≡ negative q = ap (power R w) (let e : i ≡ k + n = omega arith in e) ∙ power-after_minus_one R w n k h in
            ap₂ (λ x ys. product (root_product R x ys) x) p (ap (λ ys. remove ys i) halves ∙ remove-append_right xs (map negative xs) n i count m)
            ∙ ap (λ x. product x (negative q)) (root_product-append R (negative q) xs (remove (map negative xs) k) ∙ removed-negatives_right xs k q (omega arith) (get_or-powers R w n k R.zero b))
            ∙ combine R (q ∷ root_product R (product q q) (remove (map square xs) k) ∷ size lg ∷ [])
            ((minus (v0 ⊕ v0) ⊗ v1) ⊗ minus v0) (v2 ⊗ (𝟙 ⊕ 𝟙)) (𝟙 ⊕ 𝟙) (v1 ⊗ (v0 ⊗ v0)) v2 (below k b) refl
            ∙ sym (power-suc R.one product (sum R.one R.one) lg)
      ]
