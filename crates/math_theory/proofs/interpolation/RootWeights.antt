-- Weights at some points of a domain of 2 ^ lg points, by the products of differences from the points that are missing.
use Rattle.std.proofs.Common.{◌≡◌, ◌≢◌, ℕ, ◌-◌, ◌<◌, ◌≤◌, ◌^◌, List, Bool, true, false, [], ◌∷◌, length, get_or, refl, sym, ◌∙◌, ap, ap₂, subst, arith}
use Rattle.std.proofs.Math.ListN.{set}
use Rattle.std.proofs.lemmas.List.{length-map, length-set}
use Rattle.std.specs.List.{All, remove}
use Rattle.math_theory.specs.Recovery.{count_true, filled_items, missing_items}
use Rattle.math_theory.specs.Rings.{CommutativeRing, Field}
use Rattle.math_theory.specs.OverRing.{power, powers, value, root_product, polynomial_multiple}
use Rattle.math_theory.specs.DomainsOverRing.{HasExactOrder, IsPrincipalRoot, missing_points, missing_product}
use Rattle.math_theory.proofs.domains.DomainDifferences.{size, removed_product-point}
use Rattle.math_theory.proofs.domains.DomainPoints.{length-powers, get_or-powers, All-powers}
use Rattle.math_theory.proofs.recovery.FilledItems.{length-missing_items, All-missing_items}
use Rattle.math_theory.proofs.domains.FilledProducts.{filled_place, filled_place-true, root_product-parted, root_product-without_filled, root_product-fill, root_product-without_missing}
use Rattle.math_theory.proofs.interpolation.Lagrange.{others-apart}
use Rattle.math_theory.proofs.rings.Normal.{combine3, ◌⊗◌, ◌⊖◌, minus, v0, v1, v2, v3, v4, v5, v6, v7, v8, v9}
use Rattle.math_theory.proofs.domains.PowerLists.{powers-distinct, power-inverse}
use Rattle.math_theory.proofs.rings.RingLaws.{product-zero}
use Rattle.math_theory.proofs.domains.RootOrders.{IsPrincipalRoot-of_order}
use Rattle.math_theory.proofs.domains.RootProductLists.{root_product-powers}
use Rattle.math_theory.proofs.polynomials.RootProducts.{root_product-nonzero, vanishing_polynomial, length-vanishing_polynomial, value-vanishing_polynomial}
use Rattle.math_theory.proofs.polynomials.Roots.{product-nonzero, product-cancel_right, value-agreement}
use Rattle.math_theory.proofs.polynomials.Values.{value-multiple}

module _ {A : Type 0} (R : CommutativeRing A) (lg : ℕ) (w : A) (filled : List Bool) (h : length filled ≡ 2 ^ lg) (root : IsPrincipalRoot R lg w) where
  open R use {sum, negative, product}

  domain : List A
  domain = powers R w (length filled)

  -- the points at the true places
  abbrev pub filled_points : List A
  filled_points = filled_items (powers R w (length filled)) filled

  abbrev pub filled_point : ℕ → A
  filled_point k = power R w (filled_place filled k)

  long : length filled ≡ length (powers R w (length filled))
  long = sym (length-powers R w (length filled))

  -- the differences from the points at the true places, times those from the missing points
  pub filled_product-times_missing : (r : A) → product (root_product R r filled_points) (missing_product R r w filled) ≡ sum (power R r (2 ^ lg)) (negative R.one)
  filled_product-times_missing r =
      sym (root_product-parted R r (powers R w (length filled)) filled long) ∙ ap (λ n. root_product R r (powers R w n)) h ∙ root_product-powers R lg r w root

  removed : (i : ℕ) → i < length filled → product (root_product R (power R w i) (remove (powers R w (length filled)) i)) (power R w i) ≡ size R lg
  removed i l = ap (λ n. product (root_product R (power R w i) (remove (powers R w n) i)) (power R w i)) h ∙ removed_product-point R lg w root i (omega arith)

  -- at a point at a true place, without it
  pub others_product-times_missing : (k : ℕ) → k < count_true filled
      → product (product (root_product R (filled_point k) (remove filled_points k)) (missing_product R (filled_point k) w filled)) (filled_point k) ≡ size R lg
  others_product-times_missing k l =
      ap (λ z. product z (filled_point k)) (sym (root_product-without_filled R (filled_point k) (powers R w (length filled)) filled k long l))
      ∙ removed (filled_place filled k) (filled_place-true filled k l).0

  module _ (m : ℕ) (b : m < length filled) (e : get_or filled m false ≡ false) where
    more : (r : A) → missing_product R r w (set filled m true) ≡ root_product R r (missing_items (powers R w (length filled)) (set filled m true))
    more r = ap (λ n. root_product R r (missing_items (powers R w n) (set filled m true))) (length-set filled m true)

    -- at a missing point, which counts as filled
    pub filled_product-at_missing : product (product (root_product R (power R w m) filled_points) (missing_product R (power R w m) w (set filled m true))) (power R w m) ≡ size R lg
    filled_product-at_missing =
        ap (λ z. product z (power R w m))
        (ap (product (root_product R (power R w m) filled_points)) (more (power R w m))
        ∙ sym (root_product-without_missing R (power R w m) (powers R w (length filled)) filled m long (omega (arith, long)) e))
        ∙ removed m b

    -- at a point at a true place, without it, where a missing point counts as filled
    pub others_product-and_missing : (k : ℕ) → k < count_true filled
        → product (product (root_product R (filled_point k) (remove filled_points k))
        (product (sum (filled_point k) (negative (power R w m))) (missing_product R (filled_point k) w (set filled m true)))) (filled_point k)
        ≡ size R lg
    others_product-and_missing k l =
        ap (λ z. product (product (root_product R (filled_point k) (remove filled_points k)) z) (filled_point k))
        (ap₂ (λ y z. product (sum (filled_point k) (negative y)) z) (sym (get_or-powers R w (length filled) m R.zero b)) (more (filled_point k))
        ∙ sym (root_product-fill R (filled_point k) (powers R w (length filled)) filled m R.zero long (omega (arith, long)) e))
        ∙ others_product-times_missing k l

module _ {A : Type 0} (F : Field A) where
  open F use {sum, negative, product, ring as R}

  -- no point of a domain is zero
  pub point-nonzero : (w : A) (n i : ℕ) → power R w n ≡ F.one → i ≤ n → power R w i ≢ F.zero
  point-nonzero w n i h l e = F.one_apart (sym (power-inverse R w n i h l) ∙ ap (product (power R w (n - i))) e ∙ product-zero R (power R w (n - i)))

  -- the number of points is not zero
  pub size-nonzero : (lg : ℕ) (w : A) → HasExactOrder R w (2 ^ lg) → size R lg ≢ F.zero
  size-nonzero lg w o =
      let n = 2 ^ lg in
      let points = powers R w n in
      let first : get_or points 0 F.zero ≡ power R w 0 = get_or-powers R w n 0 F.zero o.positive in
      subst (λ x. x ≢ F.zero) (removed_product-point R lg w (IsPrincipalRoot-of_order F lg w o) 0 o.positive)
      (product-nonzero F (root_product R (power R w 0) (remove points 0)) (power R w 0)
      (root_product-nonzero F (power R w 0) (remove points 0)
      (subst (λ x. All (λ y. x ≢ y) (remove points 0)) first (others-apart F points 0 (powers-distinct R w n o) (omega (arith, length-powers R w n, o.positive)))))
      (point-nonzero w n 0 o.power_is_one (omega arith)))

  -- away from the domain the product of the differences from the missing points is not zero
  pub missing_product-nonzero : (x w : A) (filled : List Bool) → ((i : ℕ) → i < length filled → x ≢ power R w i) → missing_product R x w filled ≢ F.zero
  missing_product-nonzero x w filled apart =
      root_product-nonzero F x (missing_points R w filled)
      (All-missing_items (λ y. x ≢ y) (powers R w (length filled)) filled (All-powers R w (length filled) (λ y. x ≢ y) apart))

  -- what has the values of a multiple of the product of the differences from the missing points has its value everywhere, where some point is not missing
  pub value-of_missing : (x w u : A) (filled : List Bool) (v : List A) → HasExactOrder R w (length filled) → 0 < count_true filled → length v ≤ length filled
      → ((i : ℕ) → i < length filled → value R (power R w i) v ≡ product u (missing_product R (power R w i) w filled)) → value R x v ≡ product u (missing_product R x w filled)
  value-of_missing x w u filled v o some short h =
      let points = powers R w (length filled) in
      let long : length points ≡ length filled = length-powers R w (length filled) in
      let missing = missing_points R w filled in
      let q = polynomial_multiple R (vanishing_polynomial R missing) u in
      let q_value : (r : A) → value R r q ≡ product u (missing_product R r w filled) =
      λ r. value-multiple R r (vanishing_polynomial R missing) u ∙ ap (λ z. product z u) (value-vanishing_polynomial R r missing) ∙ R.product_comm (missing_product R r w filled) u in
      value-agreement F points v q (omega (arith, short, long))
      (omega (arith, some, long, length-map (vanishing_polynomial R missing) (λ c. product c u), length-vanishing_polynomial R missing, length-missing_items points filled (sym long)))
      (powers-distinct R w (length filled) o)
      (All-powers R w (length filled) (λ r. value R r v ≡ value R r q) (λ i l. h i l ∙ sym (q_value (power R w i))))
      x
      ∙ q_value x

  -- at x outside the domain, of which xn is x ^ n - 1: d is the difference of x from the point p, and the others are products of differences
  pub outside-equation : (weight vx n d p v u px mx mp others xn : A) → vx ≡ product u mx → v ≡ product u mp → product vx n ≢ F.zero
      → product px mx ≡ xn → product (product others mp) p ≡ n → product weight (product (product vx n) d) ≡ product xn (product p v) → product weight (product d others) ≡ px
  outside-equation weight vx n d p v u px mx mp others xn hx hv c e1 e2 h =
      product-cancel_right F (product weight (product d others)) px (product vx n) c
      (ap (λ z. product (product weight (product d others)) (product z n)) hx
      ∙ combine3 R (weight ∷ n ∷ d ∷ p ∷ u ∷ px ∷ mx ∷ mp ∷ others ∷ xn ∷ [])
      ((v0 ⊗ (v2 ⊗ v8)) ⊗ ((v4 ⊗ v6) ⊗ v1)) (v5 ⊗ ((v4 ⊗ v6) ⊗ v1))
      v8 (v0 ⊗ (((v4 ⊗ v6) ⊗ v1) ⊗ v2)) (v9 ⊗ (v3 ⊗ (v4 ⊗ v7)))
      (minus (v8 ⊗ (v3 ⊗ (v4 ⊗ v7)))) (v5 ⊗ v6) v9
      (v5 ⊗ (v4 ⊗ v6)) ((v8 ⊗ v7) ⊗ v3) v1
      (ap (λ z. product weight (product (product z n) d)) (sym hx) ∙ h ∙ ap (λ z. product xn (product p z)) hv) e1 e2 refl
      ∙ ap (λ z. product px (product z n)) (sym hx))

  -- at a missing point y of the domain
  pub missing-equation : (weight vy n y p v u py my mp others : A) → vy ≡ product u my → v ≡ product u mp → product y vy ≢ F.zero
      → product (product py my) y ≡ n → product (product others (product (sum p (negative y)) mp)) p ≡ n → product weight (product y vy) ≡ negative (product p v)
      → product weight (product (sum y (negative p)) others) ≡ py
  missing-equation weight vy n y p v u py my mp others hy hv c e1 e2 h =
      product-cancel_right F (product weight (product (sum y (negative p)) others)) py (product y vy) c
      (ap (λ z. product (product weight (product (sum y (negative p)) others)) (product y z)) hy
      ∙ combine3 R (weight ∷ n ∷ y ∷ p ∷ u ∷ py ∷ my ∷ mp ∷ others ∷ [])
      ((v0 ⊗ ((v2 ⊖ v3) ⊗ v8)) ⊗ (v2 ⊗ (v4 ⊗ v6))) (v5 ⊗ (v2 ⊗ (v4 ⊗ v6)))
      ((v2 ⊖ v3) ⊗ v8) (v0 ⊗ (v2 ⊗ (v4 ⊗ v6))) (minus (v3 ⊗ (v4 ⊗ v7)))
      (minus v4) ((v5 ⊗ v6) ⊗ v2) v1
      v4 ((v8 ⊗ ((v3 ⊖ v2) ⊗ v7)) ⊗ v3) v1
      (ap (λ z. product weight (product y z)) (sym hy) ∙ h ∙ ap (λ z. negative (product p z)) hv) e1 e2 refl
      ∙ ap (λ z. product py (product y z)) (sym hy))
