-- Weights at some points of a domain, up to a type's own equality: at zero, at x outside the domain, and at a missing point.
use Rattle.std.proofs.Common.{◌≡◌, ◌≢◌, ℕ, ◌<◌, ◌≤◌, ◌^◌, List, [], ◌∷◌, Bool, true, false, length, map, get_or, refl, sym, ◌∙◌, ap, ap₂, subst, arith}
use Rattle.std.proofs.Math.ListN.{set}
use Rattle.std.proofs.lemmas.List.{length-set, get_or_default}
use Rattle.std.proofs.lemmas.List.FromFn.{length-map-range_with_len, get_or-map-range_with_len}
use Rattle.std.specs.List.{All, range_with_len, remove}
use Rattle.math_theory.specs.Interpolation.{AreApart, AreWeightsAt}
use Rattle.math_theory.specs.Laws.{IsEquality, IsGroup, IsProduct, IsRing, IsField}
use Rattle.math_theory.specs.OverRing as OverRing
use Rattle.math_theory.specs.Powers.{power, powers}
use Rattle.math_theory.specs.Domains.{HasExactOrder}
use Rattle.math_theory.specs.DomainsOverRing as DomainsOverRing
use Rattle.math_theory.specs.Recovery.{count_true, filled_items, filled_places}
use Rattle.math_theory.specs.RootProducts.{root_product}
use Rattle.math_theory.specs.Rings.{Field}
use Rattle.math_theory.specs.Values.{value}
use Rattle.math_theory.specs.Vanishing.{missing_product, IsVanishing}
use Rattle.math_theory.proofs.domains.CarriedDomains.{HasExactOrder-classes, powers_apart-same, missing_product-class}
use Rattle.math_theory.proofs.interpolation.CarriedInterpolation.{weights_by_quotients}
use Rattle.math_theory.proofs.classes.Classes.{Class, class, class_same, same_class, field_of_classes}
use Rattle.math_theory.proofs.classes.ClassesOfLists.{power-class, powers-class, root_product-class, remove-classes, value-class, length-classes}
use Rattle.math_theory.proofs.domains.DomainDifferences.{size}
use Rattle.math_theory.proofs.recovery.FilledItems.{AreApart-filled_items, All-filled_items, length-filled_items}
use Rattle.math_theory.proofs.domains.FilledProducts.{filled_place, filled_place-true, filled_items-place, filled_items-map}
use Rattle.math_theory.proofs.rings.Normal.{ring, combine, combine3, ◌⊗◌, ◌⊖◌, minus, 𝟘, 𝟙, v0, v1, v2, v3, v4, v5, v6}
use Rattle.math_theory.proofs.rings.PowerLaws.{power-of_zero}
use Rattle.math_theory.proofs.rings.RingLaws.{negative-negative, negative-zero}
use Rattle.math_theory.proofs.domains.RootOrders.{IsPrincipalRoot-of_order}
use Rattle.math_theory.proofs.interpolation.RootWeights.{filled_points, filled_product-times_missing, others_product-times_missing, filled_product-at_missing, others_product-and_missing, point-nonzero, size-nonzero, missing_product-nonzero, value-of_missing, outside-equation, missing-equation}
use Rattle.math_theory.proofs.polynomials.Roots.{product-nonzero, difference-nonzero}

module _ {A : Type 0} {same : A → A → Type 0} {zero_of : A} {sum : A → A → A} {negative : A → A} {product : A → A → A} {one : A} {inverse : A → A}
    (E : IsEquality same) (G : IsGroup same zero_of sum negative) (P : IsProduct same product) (R : IsRing same sum product one) (F : IsField same zero_of product one inverse)
    (lg : ℕ) (w : A) (filled : List Bool) (h : length filled ≡ 2 ^ lg) (o : HasExactOrder same one product w (2 ^ lg)) where
  abbrev C : Field (Class E)
  C = field_of_classes E G P R F

  order : DomainsOverRing.HasExactOrder C.ring (class E w) (2 ^ lg)
  order = HasExactOrder-classes E G P R w (2 ^ lg) o

  principal : DomainsOverRing.IsPrincipalRoot C.ring lg (class E w)
  principal = IsPrincipalRoot-of_order C lg (class E w) order

  -- the points at the true places
  abbrev pub present : List A
  present = map (power one product w) (filled_places filled)

  abbrev pub point : ℕ → A
  point k = power one product w (filled_place filled k)

  present-items : present ≡ filled_items (powers one product w (length filled)) filled
  present-items = sym (filled_items-map (power one product w) (range_with_len 0 (length filled)) filled)

  present-class : filled_points C.ring lg (class E w) filled h principal ≡ map (class E) present
  present-class = ap (λ xs. filled_items xs filled) (powers-class E G P R w (length filled)) ∙ filled_items-map (class E) (powers one product w (length filled)) filled
      ∙ ap (map (class E)) (sym present-items)

  pub length-present : length present ≡ count_true filled
  length-present =
      ap length present-items ∙ length-filled_items (powers one product w (length filled)) filled (sym (length-map-range_with_len (power one product w) 0 (length filled)))

  pub present-place : (k : ℕ) → k < count_true filled → get_or present k zero_of ≡ point k
  present-place k l =
      ap (λ xs. get_or xs k zero_of) present-items
      ∙ filled_items-place (powers one product w (length filled)) filled k zero_of (sym (length-map-range_with_len (power one product w) 0 (length filled))) l
      ∙ get_or-map-range_with_len (power one product w) 0 (length filled) (filled_place filled k) (filled_place filled k) zero_of (filled_place-true filled k l).0 (omega arith)

  pub present-apart : AreApart same present
  present-apart =
      subst (AreApart same) (sym present-items)
      (AreApart-filled_items same (powers one product w (length filled)) filled (powers_apart-same E G P R w (length filled) (subst (HasExactOrder same one product w) (sym h) o)))

  -- what holds of all points of the domain holds of those at the true places
  pub All-present : (Q : A → Type 0) → ((i : ℕ) → i < length filled → Q (power one product w i)) → All Q present
  All-present Q each =
      subst (All Q) (sym present-items)
      (All-filled_items Q (powers one product w (length filled)) filled
      (λ i d l. let m : i < length filled = omega (arith, l, length-map-range_with_len (power one product w) 0 (length filled)) in
      subst Q (sym (get_or-map-range_with_len (power one product w) 0 (length filled) i i d m (omega arith))) (each i m)))

  abbrev over : A → List A → A
  over r xs = root_product sum negative product one r xs

  abbrev missing : A → List Bool → A
  missing r places = missing_product sum negative product one r w places

  -- the number of points
  abbrev pub count : A
  count = power one product (sum one one) lg

  over-class : (r : A) → OverRing.root_product C.ring (class E r) (filled_points C.ring lg (class E w) filled h principal) ≡ class E (over r present)
  over-class r = ap (OverRing.root_product C.ring (class E r)) present-class ∙ root_product-class E G P R r present

  others-class : (k : ℕ) → OverRing.root_product C.ring (class E (point k)) (remove (filled_points C.ring lg (class E w) filled h principal) k) ≡ class E (over (point k) (remove present k))
  others-class k =
      ap (OverRing.root_product C.ring (class E (point k))) (ap (λ xs. remove xs k) present-class ∙ remove-classes E present k) ∙ root_product-class E G P R (point k) (remove present k)

  parted : (r : A) → C.product (class E (over r present)) (class E (missing r filled)) ≡ class E (sum (power one product r (2 ^ lg)) (negative one))
  parted r =
      sym (ap₂ C.product (over-class r) (missing_product-class E G P R r w filled)) ∙ filled_product-times_missing C.ring lg (class E w) filled h principal (class E r)
      ∙ ap (λ y. C.sum y (C.negative C.one)) (power-class E G P R r (2 ^ lg))

  others : (k : ℕ) → k < count_true filled → C.product (C.product (class E (over (point k) (remove present k))) (class E (missing (point k) filled))) (class E (point k)) ≡ class E count
  others k l =
      sym (ap (λ y. C.product y (class E (point k))) (ap₂ C.product (others-class k) (missing_product-class E G P R (point k) w filled)))
      ∙ subst (λ p. C.product (C.product (OverRing.root_product C.ring p (remove (filled_points C.ring lg (class E w) filled h principal) k))
      (DomainsOverRing.missing_product C.ring p (class E w) filled)) p ≡ size C.ring lg)
      (power-class E G P R w (filled_place filled k)) (others_product-times_missing C.ring lg (class E w) filled h principal k l)
      ∙ power-class E G P R (sum one one) lg

  count-nonzero : class E count ≢ C.zero
  count-nonzero = subst (λ n. n ≢ C.zero) (power-class E G P R (sum one one) lg) (size-nonzero C lg (class E w) order)

  -- what gives the product of all differences of x, times the divisor of its place, is the weight
  weights_by_places : (x : A) (ws : List A) → All (λ p. ¬ (same p x)) present → length ws ≡ count_true filled
      → ((k : ℕ) → k < count_true filled → C.product (class E (get_or ws k zero_of))
      (C.product (C.sum (class E x) (C.negative (class E (point k)))) (class E (over (point k) (remove present k)))) ≡ class E (over x present))
      → AreWeightsAt same zero_of sum product one x present ws
  weights_by_places x ws outside n each =
      weights_by_quotients E G P R F x present ws present-apart outside (n ∙ sym length-present)
      (λ k l. let m : k < count_true filled = omega (arith, l, length-present) in
      subst (λ p. same (product (get_or ws k zero_of) (product (sum x (negative p)) (over p (remove present k)))) (over x present)) (sym (present-place k m)) (same_class E _ _ (each k m)))

  module _ (at_zero : A) (values : List A) (V : IsVanishing same zero_of sum negative product one w filled at_zero values) where
    value-at_place : (k : ℕ) → k < count_true filled → class E (get_or values (filled_place filled k) zero_of) ≡ C.product (class E V.factor) (class E (missing (point k) filled))
    value-at_place k l = class_same E _ _ (V.value_at_power (filled_place filled k) (filled_place-true filled k l).0)

    factor-nonzero : class E V.factor ≢ C.zero
    factor-nonzero e = V.factor_is_not_zero (same_class E V.factor zero_of e)

    module _ (x vx : A) (outside : (i : ℕ) → i < length filled → ¬ (same (power one product w i) x)) (at_x : same vx (product V.factor (missing x filled))) where
      value-nonzero : class E vx ≢ C.zero
      value-nonzero e =
          product-nonzero C (class E V.factor) (class E (missing x filled)) factor-nonzero
          (subst (λ m. m ≢ C.zero) (missing_product-class E G P R x w filled)
          (missing_product-nonzero C (class E x) (class E w) filled (λ i l d. outside i l (E.symmetric _ _ (same_class E _ _ (d ∙ power-class E G P R w i))))))
          (sym (class_same E vx (product V.factor (missing x filled)) at_x) ∙ e)

      -- no divisor is zero
      pub divisor-nonzero : (n d p : A) (k : ℕ) → k < count_true filled → same n count → same p (point k) → same d (product (product vx n) (sum x (negative p))) → ¬ (same d zero_of)
      divisor-nonzero n d p k l hn hp hd e =
          let i = filled_place filled k in
          let apart : class E x ≢ class E (point k) = λ z. outside i (filled_place-true filled k l).0 (E.symmetric _ _ (same_class E _ _ z)) in
          product-nonzero C (C.product (class E vx) (class E count)) (C.sum (class E x) (C.negative (class E (point k))))
          (product-nonzero C (class E vx) (class E count) value-nonzero count-nonzero) (difference-nonzero C (class E x) (class E (point k)) apart)
          (sym (ap₂ (λ m y. C.product (C.product (class E vx) m) (C.sum (class E x) (C.negative y))) (class_same E n count hn) (class_same E p (point k) hp)) ∙ sym (class_same E d _ hd)
          ∙ class_same E d zero_of e)

      -- the quotients of x ^ N - 1 and the divisors, times the points and the values there
      pub weights_outside : (n numerator : A) (points ds qs vs ws : List A) → same n count → same numerator (sum (power one product x (2 ^ lg)) (negative one)) → length ws ≡ count_true filled
          → ((k : ℕ) → k < count_true filled → same (get_or points k zero_of) (point k))
          → ((k : ℕ) → k < count_true filled → same (get_or vs k zero_of) (get_or values (filled_place filled k) zero_of))
          → ((k : ℕ) → k < count_true filled → same (get_or ds k zero_of) (product (product vx n) (sum x (negative (get_or points k zero_of)))))
          → ((k : ℕ) → k < count_true filled → same (product (get_or qs k zero_of) (get_or ds k zero_of)) numerator)
          → ((k : ℕ) → k < count_true filled → same (get_or ws k zero_of) (product (product (get_or qs k zero_of) (get_or points k zero_of)) (get_or vs k zero_of)))
          → AreWeightsAt same zero_of sum product one x present ws
      weights_outside n numerator points ds qs vs ws hn hx count-ws hp hv hd hq hw =
          weights_by_places x ws (All-present (λ p. ¬ (same p x)) outside) count-ws
          (λ k l.
          let c = class E in
          let p = c (point k) in
          let q = c (get_or qs k zero_of) in
          let v = c (get_or values (filled_place filled k) zero_of) in
          let d = C.sum (c x) (C.negative p) in
          let point-is : c (get_or points k zero_of) ≡ p = class_same E _ _ (hp k l) in
          let divisor-is : c (get_or ds k zero_of) ≡ C.product (C.product (c vx) (c count)) d =
          class_same E _ _ (hd k l) ∙ ap₂ (λ m y. C.product (C.product (c vx) m) (C.sum (c x) (C.negative y))) (class_same E n count hn) point-is in
          let weight-is : c (get_or ws k zero_of) ≡ C.product (C.product q p) v = class_same E _ _ (hw k l) ∙ ap₂ (λ y z. C.product (C.product q y) z) point-is (class_same E _ _ (hv k l)) in
          let quotient-is : C.product q (C.product (C.product (c vx) (c count)) d) ≡ c (sum (power one product x (2 ^ lg)) (negative one)) =
          ap (C.product q) (sym divisor-is) ∙ class_same E _ _ (hq k l) ∙ class_same E _ _ hx in
          outside-equation C (c (get_or ws k zero_of)) (c vx) (c count) d p v (c V.factor) (c (over x present)) (c (missing x filled)) (c (missing (point k) filled))
          (c (over (point k) (remove present k)))
          (c (sum (power one product x (2 ^ lg)) (negative one)))
          (class_same E _ _ at_x) (value-at_place k l) (product-nonzero C (c vx) (c count) value-nonzero count-nonzero) (parted x) (others k l)
          (ap (λ y. C.product y (C.product (C.product (c vx) (c count)) d)) weight-is
          ∙ combine C.ring (q ∷ p ∷ v ∷ C.product (C.product (c vx) (c count)) d ∷ c (sum (power one product x (2 ^ lg)) (negative one)) ∷ [])
          (((v0 ⊗ v1) ⊗ v2) ⊗ v3) (v4 ⊗ (v1 ⊗ v2)) (v1 ⊗ v2) (v0 ⊗ v3) v4 quotient-is refl))

    -- at zero: the values at the points, divided by the number of points times the value at zero
    pub weights_at_zero : (x n factor : A) (vs ws : List A) → same x zero_of → same n count → same factor (inverse (product n at_zero)) → length ws ≡ count_true filled
        → ((k : ℕ) → k < count_true filled → same (get_or vs k zero_of) (get_or values (filled_place filled k) zero_of))
        → ((k : ℕ) → k < count_true filled → same (get_or ws k zero_of) (product (get_or vs k zero_of) factor))
        → AreWeightsAt same zero_of sum product one x present ws
    weights_at_zero x n factor vs ws hx hn hf count-ws hv hw =
        let c = class E in
        let x0 : c x ≡ C.zero = class_same E x zero_of hx in
        let outside : (i : ℕ) → i < length filled → ¬ (same (power one product w i) x) =
        λ i l d.
        point-nonzero C (c w) (2 ^ lg) i order.power_is_one (omega arith) (power-class E G P R w i ∙ class_same E _ _ d ∙ x0) in
        let at_x : same at_zero (product V.factor (missing x filled)) =
        same_class E _ _ (class_same E _ _ V.value_at_zero
        ∙ ap (C.product (c V.factor)) (sym (missing_product-class E G P R zero_of w filled) ∙ ap (λ r. DomainsOverRing.missing_product C.ring r (c w) filled) (sym x0)
        ∙ missing_product-class E G P R x w filled)) in
        let xn = c (sum (power one product x (2 ^ lg)) (negative one)) in
        let xn-is : xn ≡ C.sum C.zero (C.negative C.one) =
        ap (λ y. C.sum y (C.negative C.one)) (sym (power-class E G P R x (2 ^ lg)) ∙ ap (λ y. OverRing.power C.ring y (2 ^ lg)) x0 ∙ power-of_zero C.ring (2 ^ lg) order.positive) in
        let divisor = C.product (c count) (c at_zero) in
        let nonzero : divisor ≢ C.zero = product-nonzero C (c count) (c at_zero) count-nonzero (value-nonzero x at_zero outside at_x) in
        let factor-is : c factor ≡ C.inverse divisor = class_same E _ _ hf ∙ ap (λ m. C.inverse (C.product m (c at_zero))) (class_same E n count hn) in
        weights_by_places x ws (All-present (λ p. ¬ (same p x)) outside) count-ws
        (λ k l.
        let p = c (point k) in
        let v = c (get_or values (filled_place filled k) zero_of) in
        let f = C.inverse divisor in
        outside-equation C (c (get_or ws k zero_of)) (c at_zero) (c count) (C.sum (c x) (C.negative p)) p v (c V.factor) (c (over x present)) (c (missing x filled)) (c (missing (point k) filled))
        (c (over (point k) (remove present k))) xn
        (class_same E _ _ at_x) (value-at_place k l) (product-nonzero C (c at_zero) (c count) (value-nonzero x at_zero outside at_x) count-nonzero) (parted x) (others k l)
        (ap (λ y. C.product y (C.product (C.product (c at_zero) (c count)) (C.sum (c x) (C.negative p)))) (class_same E _ _ (hw k l) ∙ ap₂ C.product (class_same E _ _ (hv k l)) factor-is)
        ∙ combine3 C.ring (v ∷ f ∷ c at_zero ∷ c count ∷ c x ∷ p ∷ xn ∷ [])
        ((v0 ⊗ v1) ⊗ ((v2 ⊗ v3) ⊗ (v4 ⊖ v5))) (v6 ⊗ (v5 ⊗ v0))
        (v0 ⊗ (v4 ⊖ v5)) ((v3 ⊗ v2) ⊗ v1) 𝟙
        v0 v4 𝟘
        (minus (v5 ⊗ v0)) v6 (𝟘 ⊖ 𝟙)
        (C.product_inverse divisor nonzero) x0 xn-is refl))

    -- what has the values at the points of the domain has its value at x, where some point is not missing
    pub value_of_coefficients : (x vx : A) (v : List A) → 0 < count_true filled → length v ≤ length filled → same vx (value zero_of sum product one x v)
        → ((i : ℕ) → i < length filled → same (value zero_of sum product one (power one product w i) v) (get_or values i zero_of)) → same vx (product V.factor (missing x filled))
    value_of_coefficients x vx v some short e each =
        let c = class E in
        same_class E _ _ (class_same E vx _ e ∙ sym (value-class E G P R x v)
        ∙ value-of_missing C (c x) (c w) (c V.factor) filled (map c v) (subst (DomainsOverRing.HasExactOrder C.ring (c w)) (sym h) order) some (omega (arith, short, length-classes E v))
        (λ i l. ap (λ r. OverRing.value C.ring r (map c v)) (power-class E G P R w i) ∙ value-class E G P R (power one product w i) v ∙ class_same E _ _ (each i l)
        ∙ class_same E _ _ (V.value_at_power i l)
        ∙ ap (C.product (c V.factor)) (sym (missing_product-class E G P R (power one product w i) w filled)
        ∙ ap (λ r. DomainsOverRing.missing_product C.ring r (c w) filled) (sym (power-class E G P R w i))))
        ∙ ap (C.product (c V.factor)) (missing_product-class E G P R x w filled))

  module _ (m : ℕ) (b : m < length filled) (e : get_or filled m false ≡ false) where
    abbrev more : List Bool
    more = set filled m true

    abbrev y : A
    y = power one product w m

    at_missing : C.product (C.product (class E (over y present)) (class E (missing y more))) (class E y) ≡ class E count
    at_missing =
        sym (ap (λ z. C.product z (class E y)) (ap₂ C.product (over-class y) (missing_product-class E G P R y w more)))
        ∙ subst (λ p. C.product (C.product (OverRing.root_product C.ring p (filled_points C.ring lg (class E w) filled h principal))
        (DomainsOverRing.missing_product C.ring p (class E w) more)) p ≡ size C.ring lg)
        (power-class E G P R w m) (filled_product-at_missing C.ring lg (class E w) filled h principal m b e)
        ∙ power-class E G P R (sum one one) lg

    others-and_missing : (k : ℕ) → k < count_true filled
        → C.product (C.product (class E (over (point k) (remove present k))) (C.product (C.sum (class E (point k)) (C.negative (class E y))) (class E (missing (point k) more))))
        (class E (point k)) ≡ class E count
    others-and_missing k l =
        sym (ap (λ z. C.product z (class E (point k)))
        (ap₂ C.product (others-class k) (ap₂ (λ q z. C.product (C.sum (class E (point k)) (C.negative q)) z) (power-class E G P R w m) (missing_product-class E G P R (point k) w more))))
        ∙ subst (λ p. C.product (C.product (OverRing.root_product C.ring p (remove (filled_points C.ring lg (class E w) filled h principal) k))
        (C.product (C.sum p (C.negative (OverRing.power C.ring (class E w) m))) (DomainsOverRing.missing_product C.ring p (class E w) more))) p ≡ size C.ring lg)
        (power-class E G P R w (filled_place filled k)) (others_product-and_missing C.ring lg (class E w) filled h principal m b e k l)
        ∙ power-class E G P R (sum one one) lg

    -- at a missing point, which is set as well: the points times the values there, divided by minus the missing point times the value there
    pub weights_at_missing : (at_zero : A) (values : List A) → IsVanishing same zero_of sum negative product one w more at_zero values → (x factor : A) (points vs ws : List A)
        → same y x → same factor (inverse (negative (product x (get_or values m zero_of)))) → length ws ≡ count_true filled
        → ((k : ℕ) → k < count_true filled → ¬ (same (point k) x))
        → ((k : ℕ) → k < count_true filled → same (get_or points k zero_of) (point k))
        → ((k : ℕ) → k < count_true filled → same (get_or vs k zero_of) (get_or values (filled_place filled k) zero_of))
        → ((k : ℕ) → k < count_true filled → same (get_or ws k zero_of) (product (product (get_or vs k zero_of) (get_or points k zero_of)) factor))
        → AreWeightsAt same zero_of sum product one x present ws
    weights_at_missing at_zero values V x factor points vs ws hx hf count-ws outside hp hv hw =
        let c = class E in
        let long : length more ≡ length filled = length-set filled m true in
        let y-is : c y ≡ c x = class_same E y x hx in
        let vy = c (get_or values m zero_of) in
        let my = c (missing y more) in
        let vy-is : vy ≡ C.product (c V.factor) my = class_same E _ _ (V.value_at_power m (omega (arith, long, b))) in
        let my-nonzero : my ≢ C.zero =
        λ z. count-nonzero (sym at_missing ∙ ap (λ r. C.product (C.product (c (over y present)) r) (c y)) z
        ∙ ring C.ring (c (over y present) ∷ c y ∷ []) ((v0 ⊗ 𝟘) ⊗ v1) 𝟘 refl) in
        let y-nonzero : c y ≢ C.zero = λ z. point-nonzero C (c w) (2 ^ lg) m order.power_is_one (omega arith) (power-class E G P R w m ∙ z) in
        let factor-nonzero : c V.factor ≢ C.zero = λ z. V.factor_is_not_zero (same_class E V.factor zero_of z) in
        let vy-nonzero : vy ≢ C.zero = λ z. product-nonzero C (c V.factor) my factor-nonzero my-nonzero (sym vy-is ∙ z) in
        let divisor = C.negative (C.product (c y) vy) in
        let product-apart : C.product (c y) vy ≢ C.zero = product-nonzero C (c y) vy y-nonzero vy-nonzero in
        let nonzero : divisor ≢ C.zero = λ z. product-apart (sym (negative-negative C.ring (C.product (c y) vy)) ∙ ap C.negative z ∙ negative-zero C.ring) in
        let factor-is : c factor ≡ C.inverse divisor = class_same E _ _ hf ∙ ap (λ r. C.inverse (C.negative (C.product r vy))) (sym y-is) in
        weights_by_places x ws
        (λ k d l. let l' : k < count_true filled = omega (arith, l, length-present) in
        subst (λ p. ¬ (same p x)) (sym (present-place k l') ∙ get_or_default present k zero_of d l) (outside k l'))
        count-ws
        (λ k l.
        let p = c (point k) in
        let v = c (get_or values (filled_place filled k) zero_of) in
        let f = C.inverse divisor in
        ap (λ r. C.product (c (get_or ws k zero_of)) (C.product (C.sum r (C.negative p)) (c (over (point k) (remove present k))))) (sym y-is)
        ∙ missing-equation C (c (get_or ws k zero_of)) vy (c count) (c y) p v (c V.factor) (c (over y present)) my (c (missing (point k) more)) (c (over (point k) (remove present k)))
        vy-is (class_same E _ _ (V.value_at_power (filled_place filled k) (omega (arith, long, (filled_place-true filled k l).0)))) product-apart at_missing (others-and_missing k l)
        (ap (λ r. C.product r (C.product (c y) vy)) (class_same E _ _ (hw k l) ∙ ap₂ C.product (ap₂ C.product (class_same E _ _ (hv k l)) (class_same E _ _ (hp k l))) factor-is)
        ∙ combine C.ring (v ∷ p ∷ f ∷ c y ∷ vy ∷ [])
        (((v0 ⊗ v1) ⊗ v2) ⊗ (v3 ⊗ v4)) (minus (v1 ⊗ v0)) (minus (v0 ⊗ v1)) (minus (v3 ⊗ v4) ⊗ v2) 𝟙 (C.product_inverse divisor nonzero) refl)
        ∙ sym (over-class y) ∙ ap (λ r. OverRing.root_product C.ring r (filled_points C.ring lg (class E w) filled h principal)) y-is ∙ over-class x)
