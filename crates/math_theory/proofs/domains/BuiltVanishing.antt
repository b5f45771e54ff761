-- Polynomials that vanish at the missing points of a domain, up to a type's own equality: one place more, at none and at all places, and from those of the even and the odd places.
use Rattle.std.proofs.Common.{◌≡◌, ℕ, ◌+◌, ◌<◌, ◌^◌, List, [], ◌∷◌, ◌++◌, Bool, true, false, length, replicate, get_or, refl, sym, ◌∙◌, ap, ap₂}
use Rattle.std.proofs.lemmas.List.{length-replicate}
use Rattle.std.proofs.lemmas.List.FromFn.{length-map-range_with_len}
use Rattle.math_theory.specs.BitReversal.{even_items, odd_items}
use Rattle.math_theory.specs.Domains.{HasExactOrder}
use Rattle.math_theory.specs.DomainsOverRing as DomainsOverRing
use Rattle.math_theory.specs.Laws.{IsEquality, IsGroup, IsProduct, IsRing, IsField}
use Rattle.math_theory.specs.OverRing as OverRing
use Rattle.math_theory.specs.Powers.{power, powers}
use Rattle.math_theory.specs.Recovery.{missing_items}
use Rattle.math_theory.specs.Rings.{CommutativeRing}
use Rattle.math_theory.specs.RootProducts.{root_product}
use Rattle.math_theory.specs.Vanishing.{missing_points, missing_product, VanishesAt, IsVanishing}
use Rattle.math_theory.proofs.domains.CarriedDomains.{missing_product-class, root_product-powers-same, IsPrincipalRoot-of_order-same}
use Rattle.math_theory.proofs.classes.Classes.{Class, class, class_same, same_class, ring_of_classes, field_of_classes}
use Rattle.math_theory.proofs.classes.ClassesOfLists.{power-class}
use Rattle.math_theory.proofs.domains.MissingProducts.{missing_items-all, missing_product-push, missing_product-none, missing_product-scaled_halves}
use Rattle.math_theory.proofs.rings.Normal.{combine2, ◌⊗◌, minus, 𝟘, 𝟙, v0, v1, v2, v3, v4, v5, v6, v7}
use Rattle.math_theory.proofs.rings.PowerLaws as PowerLaws
use Rattle.math_theory.proofs.rings.RingLaws.{product-one_right}
use Rattle.math_theory.proofs.classes.RingUpToSame.{combine_same}
use Rattle.math_theory.proofs.domains.RootProductLists.{power-nonzero}
use Rattle.math_theory.proofs.polynomials.Roots.{product-nonzero}

module _ {A : Type 0} {same : A → A → Type 0} {zero_of : A} {sum : A → A → A} {negative : A → A} {product : A → A → A} {one : A}
    (E : IsEquality same) (G : IsGroup same zero_of sum negative) (P : IsProduct same product) (R : IsRing same sum product one) where
  abbrev C : CommutativeRing (Class E)
  C = ring_of_classes E G P R

  abbrev missing : A → A → List Bool → A
  missing r w filled = missing_product sum negative product one r w filled

  -- one filled place more, and one missing place more
  pub missing_product-filled : (r w y : A) (filled : List Bool) → same y (missing r w filled) → same y (missing r w (filled ++ (true ∷ [])))
  missing_product-filled r w y filled h =
      E.transitive _ _ _ h (same_class E _ _ (sym (missing_product-class E G P R r w filled)
      ∙ sym (missing_product-push C (class E r) (class E w) filled true ∙ product-one_right C (DomainsOverRing.missing_product C (class E r) (class E w) filled))
      ∙ missing_product-class E G P R r w (filled ++ (true ∷ []))))

  pub missing_product-more : (r w p x y : A) (filled : List Bool) (n : ℕ) → length filled ≡ n → same p (power one product w n) → same x (product y (sum r (negative p)))
      → same y (missing r w filled) → same x (missing r w (filled ++ (false ∷ [])))
  missing_product-more r w p x y filled n e hp hx hy =
      E.transitive _ _ _ hx (same_class E _ _
      (ap₂ C.product (class_same E _ _ hy ∙ sym (missing_product-class E G P R r w filled))
      (ap (λ q. C.sum (class E r) (C.negative q)) (class_same E _ _ hp ∙ sym (power-class E G P R w n) ∙ ap (OverRing.power C (class E w)) (sym e)))
      ∙ sym (missing_product-push C (class E r) (class E w) filled false) ∙ missing_product-class E G P R r w (filled ++ (false ∷ []))))

  missing_product-at : (r w w' : A) (filled : List Bool) → same w w' → same (missing r w filled) (missing r w' filled)
  missing_product-at r w w' filled h =
      same_class E _ _ (sym (missing_product-class E G P R r w filled) ∙ ap (λ x. DomainsOverRing.missing_product C (class E r) x filled) (class_same E w w' h)
      ∙ missing_product-class E G P R r w' filled)

  abbrev Vanishes : A → List Bool → (A → A) → Type 0
  Vanishes w filled v = VanishesAt same zero_of sum negative product one (missing_points one product w filled) v

  -- the value at zero, and the values at the points
  pub IsVanishing-from_VanishesAt-same : (w at_zero : A) (filled : List Bool) (v : A → A) (values : List A) → length values ≡ length filled → Vanishes w filled v → same at_zero (v zero_of)
      → ((i : ℕ) → i < length filled → same (get_or values i zero_of) (v (power one product w i))) → IsVanishing same zero_of sum negative product one w filled at_zero values
  IsVanishing-from_VanishesAt-same w at_zero filled v values l a z h = record {
    factor = a.factor;
    factor_is_not_zero = a.factor_is_not_zero;
    lengths = l;
    value_at_zero = E.transitive _ _ _ z (a.gives zero_of);
    value_at_power = λ i m. E.transitive _ _ _ (h i m) (a.gives (power one product w i));
  }

  -- the same values
  pub VanishesAt-respects : (w : A) (filled : List Bool) (u v : A → A) → ((r : A) → same (v r) (u r)) → Vanishes w filled u → Vanishes w filled v
  VanishesAt-respects w filled u v h a = record { factor = a.factor; factor_is_not_zero = a.factor_is_not_zero; gives = λ r. E.transitive _ _ _ (h r) (a.gives r) }

  module _ {inverse : A → A} (F : IsField same zero_of product one inverse) where
    both_nonzero : (a b : A) → ¬ (same a zero_of) → ¬ (same b zero_of) → ¬ (same (product a b) zero_of)
    both_nonzero a b h k z = product-nonzero (field_of_classes E G P R F) (class E a) (class E b) (λ e. h (same_class E a zero_of e)) (λ e. k (same_class E b zero_of e))
        (class_same E (product a b) zero_of z)

    -- where no point is missing
    pub VanishesAt-none : (w : A) (n : ℕ) (filled : List Bool) → filled ≡ replicate n true → Vanishes w filled (λ r. one)
    VanishesAt-none w n filled e = record {
      factor = one;
      factor_is_not_zero = F.distinct;
      gives = λ r. rw e (same_class E _ _ (sym (product-one_right C C.one ∙ refl)
          ∙ ap (C.product C.one) (sym (missing_product-none C (class E r) (class E w) n) ∙ missing_product-class E G P R r w (replicate n true))));
    }

    -- where all are
    pub VanishesAt-all : (w : A) (lg : ℕ) (filled : List Bool) → filled ≡ replicate (2 ^ lg) false → HasExactOrder same one product w (2 ^ lg)
        → Vanishes w filled (λ r. sum (power one product r (2 ^ lg)) (negative one))
    VanishesAt-all w lg filled e o = record {
      factor = one;
      factor_is_not_zero = F.distinct;
      gives = λ r. rw e (same_class E _ _
          (sym (class_same E _ _ (root_product-powers-same E G P R lg r w (IsPrincipalRoot-of_order-same E G P R F lg w o)))
          ∙ sym (C.product_one (class E (root_product sum negative product one r (powers one product w (2 ^ lg)))))
          ∙ ap (C.product C.one) (all_points r)));
    }
      where
        all_points : (r : A) → class E (root_product sum negative product one r (powers one product w (2 ^ lg))) ≡ class E (missing r w (replicate (2 ^ lg) false))
        all_points r =
            let long : length (powers one product w (2 ^ lg)) ≡ 2 ^ lg = length-map-range_with_len (power one product w) 0 (2 ^ lg) in
            ap (λ xs. class E (root_product sum negative product one r xs))
            (sym (ap (λ m. missing_items (powers one product w m) (replicate (2 ^ lg) false)) (length-replicate (2 ^ lg) false)
            ∙ ap (λ m. missing_items (powers one product w (2 ^ lg)) (replicate m false)) (sym long) ∙ missing_items-all (powers one product w (2 ^ lg))))

    -- the product of the differences itself, for a root that is same
    pub VanishesAt-product : (w w' : A) (filled : List Bool) (v : A → A) → same w' w → ((r : A) → same (v r) (missing r w' filled)) → Vanishes w filled v
    VanishesAt-product w w' filled v h k = record {
      factor = one;
      factor_is_not_zero = F.distinct;
      gives = λ r. E.transitive _ _ _ (k r) (E.transitive _ _ _ (missing_product-at r w' w filled h) (E.symmetric _ _ (R.identity (missing r w filled))));
    }

    -- p for the points of even place times q for those of odd place, at the inverse root times r
    pub VanishesAt-halves : (w w' square factor : A) (n : ℕ) (filled : List Bool) (p q v : A → A) → length filled ≡ n + n → same (product w w) square → same (product w w') one
        → Vanishes square (even_items filled) p → Vanishes square (odd_items filled) q
        → ¬ (same factor zero_of) → ((r : A) → same (v r) (product factor (product (p r) (q (product w' r))))) → Vanishes w filled v
    VanishesAt-halves w w' square factor n filled p q v l hs hw a b nonzero h =
        let inverse_nonzero : ¬ (same w' zero_of) = λ z. F.distinct (E.transitive _ _ _ (E.symmetric _ _ hw) (combine_same E G P R (w ∷ w' ∷ []) (v0 ⊗ v1) 𝟘 v0 v1 𝟘 z refl)) in
        let k : ℕ = length (DomainsOverRing.missing_points C (C.product (class E w) (class E w)) (odd_items filled)) in
        let unit : C.product (class E w) (class E w') ≡ C.one = class_same E _ _ hw in
        let back : C.product (class E (power one product w' k)) (OverRing.power C (class E w) k) ≡ C.one =
        ap (λ x. C.product x (OverRing.power C (class E w) k)) (sym (power-class E G P R w' k)) ∙ sym (PowerLaws.power-product C (class E w') (class E w) k)
        ∙ ap (λ x. OverRing.power C x k) (C.product_comm (class E w') (class E w) ∙ unit) ∙ PowerLaws.power-of_one C k in
        record {
          factor = product (product factor (product a.factor b.factor)) (power one product w' k);
          factor_is_not_zero = both_nonzero _ _ (both_nonzero _ _ nonzero (both_nonzero _ _ a.factor_is_not_zero b.factor_is_not_zero)) (nonzero_power w' k inverse_nonzero);
          gives = λ r.
              let s = product w' r in
              let even : Class E = class E (missing r square (even_items filled)) in
              let odd : Class E = class E (missing s square (odd_items filled)) in
              let halves : class E (missing r w filled) ≡ C.product (OverRing.power C (class E w) k) (C.product even odd) =
              sym (missing_product-class E G P R r w filled) ∙ missing_product-scaled_halves C (class E r) (class E w) (class E w') n filled unit l
              ∙ ap (C.product (OverRing.power C (class E w) k)) (ap₂ C.product (at_square r (even_items filled)) (at_square s (odd_items filled))) in
              same_class E _ _
              (class_same E _ _ (h r) ∙ ap (C.product (class E factor)) (ap₂ C.product (class_same E _ _ (a.gives r)) (class_same E _ _ (b.gives s)))
              ∙ combine2 C (class E factor ∷ class E a.factor ∷ class E b.factor ∷ class E (power one product w' k) ∷ OverRing.power C (class E w) k ∷ even ∷ odd ∷ class E (missing r w filled) ∷ [])
              (v0 ⊗ ((v1 ⊗ v5) ⊗ (v2 ⊗ v6))) (((v0 ⊗ (v1 ⊗ v2)) ⊗ v3) ⊗ v7)
              (minus ((v0 ⊗ (v1 ⊗ v2)) ⊗ v3)) v7 (v4 ⊗ (v5 ⊗ v6)) (minus ((v0 ⊗ (v1 ⊗ v2)) ⊗ (v5 ⊗ v6))) (v3 ⊗ v4) 𝟙 halves back refl);
        }
      where
        nonzero_power : (s : A) (k : ℕ) → ¬ (same s zero_of) → ¬ (same (power one product s k) zero_of)
        nonzero_power s k h z = power-nonzero (field_of_classes E G P R F) (class E s) k (λ e. h (same_class E s zero_of e)) (power-class E G P R s k ∙ class_same E _ _ z)

        at_square : (r : A) (places : List Bool) → DomainsOverRing.missing_product C (class E r) (C.product (class E w) (class E w)) places ≡ class E (missing r square places)
        at_square r places = ap (λ x. DomainsOverRing.missing_product C (class E r) x places) (class_same E _ _ hs) ∙ missing_product-class E G P R r square places
