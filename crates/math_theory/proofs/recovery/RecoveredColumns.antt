-- Polynomials on a domain and on its coset, up to a type's own equality: those that agree on the domain agree everywhere, and the steps of a recovery give what fits.
use Rattle.std.proofs.Common.{◌≡◌, ℕ, suc, ◌+◌, ◌*◌, ◌<◌, ◌≤◌, List, [], Bool, false, length, map, get_or, sym, ◌∙◌, ap, ap₂, subst, true≢false, arith}
use Rattle.std.proofs.lemmas.List.{get_or-map, get_or_past}
use Rattle.std.proofs.lemmas.List.FromFn.{length-map-range_with_len, get_or-map-range_with_len}
use Rattle.std.specs.List.{All}
use Rattle.math_theory.specs.Coefficients.{HaveSameCoefficients}
use Rattle.math_theory.specs.Domains.{HasExactOrder}
use Rattle.math_theory.specs.Laws.{IsEquality, IsGroup, IsProduct, IsRing, IsField}
use Rattle.math_theory.specs.OverRing as OverRing
use Rattle.math_theory.specs.Powers.{power, powers}
use Rattle.math_theory.specs.Recovery.{count_true, Fits}
use Rattle.math_theory.specs.RecoveryOnCoset.{HasCoset}
use Rattle.math_theory.specs.Rings.{Field}
use Rattle.math_theory.specs.RootProducts.{root_product}
use Rattle.math_theory.specs.Values.{value}
use Rattle.math_theory.specs.Vanishing.{missing_points, VanishesAt}
use Rattle.math_theory.proofs.domains.CarriedDomains.{HasExactOrder-classes}
use Rattle.math_theory.proofs.recovery.CarriedRecovery.{division_on_coset-same}
use Rattle.math_theory.proofs.classes.Classes.{Class, class, class_same, same_class, field_of_classes}
use Rattle.math_theory.proofs.classes.ClassesOfLists.{length-classes, power-class, value-class, root_product-class, HaveSameCoefficients-from_classes}
use Rattle.math_theory.proofs.polynomials.Coefficients.{length-product-le}
use Rattle.math_theory.proofs.domains.DomainPoints.{length-powers, All-powers}
use Rattle.math_theory.proofs.recovery.FilledItems.{All-missing_items}
use Rattle.math_theory.proofs.domains.PowerLists.{powers-distinct}
use Rattle.math_theory.proofs.polynomials.RootProducts.{root_product-nonzero}
use Rattle.math_theory.proofs.polynomials.Roots.{product-nonzero, agreement, value-agreement}
use Rattle.math_theory.proofs.polynomials.Values.{value-product}

module _ {A : Type 0} {same : A → A → Type 0} {zero_of : A} {sum : A → A → A} {negative : A → A} {product : A → A → A} {one : A} {inverse : A → A}
    (E : IsEquality same) (G : IsGroup same zero_of sum negative) (P : IsProduct same product) (R : IsRing same sum product one) (F : IsField same zero_of product one inverse) where
  abbrev C : Field (Class E)
  C = field_of_classes E G P R F

  abbrev classes : List A → List (Class E)
  classes p = map (class E) p

  abbrev at : A → List A → A
  at r p = value zero_of sum product one r p

  abbrev point : A → ℕ → A
  point w i = power one product w i

  module _ (w : A) (n : ℕ) (order : HasExactOrder same one product w n) where
    value-at_point : (i : ℕ) (p : List A) → OverRing.value C.ring (OverRing.power C.ring (class E w) i) (classes p) ≡ class E (at (point w i) p)
    value-at_point i p = ap (λ x. OverRing.value C.ring x (classes p)) (power-class E G P R w i) ∙ value-class E G P R (point w i) p

    short : (p : List A) → length p ≤ n → length (classes p) ≤ length (OverRing.powers C.ring (class E w) n)
    short p l = omega (arith, l, length-classes E p, length-powers C.ring (class E w) n)

    distinct : OverRing.AreDistinct (OverRing.powers C.ring (class E w) n)
    distinct = powers-distinct C.ring (class E w) n (HasExactOrder-classes E G P R w n order)

    -- two polynomials of at most n coefficients that agree on the domain have the same coefficients
    pub domain_agreement : (p q : List A) → length p ≤ n → length q ≤ n → ((i : ℕ) → i < n → same (at (point w i) p) (at (point w i) q)) → HaveSameCoefficients same zero_of p q
    domain_agreement p q l m h =
        HaveSameCoefficients-from_classes E G P R p q
        (agreement C (OverRing.powers C.ring (class E w) n) (classes p) (classes q) (short p l) (short q m) distinct
        (All-powers C.ring (class E w) n (λ x. OverRing.value C.ring x (classes p) ≡ OverRing.value C.ring x (classes q))
        (λ i b. value-at_point i p ∙ class_same E _ _ (h i b) ∙ sym (value-at_point i q))))

    -- what has on the domain the values of a product has them everywhere
    pub domain_product : (all left right : List A) → length all ≤ n → length left ≤ n → length left + length right ≤ suc n
        → ((i : ℕ) → i < n → same (at (point w i) all) (product (at (point w i) left) (at (point w i) right)))
        → (r : A) → same (at r all) (product (at r left) (at r right))
    domain_product all left right l m both h r =
        let product_of : List (Class E) = OverRing.polynomial_product C.ring (classes left) (classes right) in
        let few : length product_of ≤ n = length-product-le C.sum C.zero C.product (classes left) (classes right) n (omega (arith, m, length-classes E left))
        (omega (arith, both, length-classes E left, length-classes E right)) in
        same_class E _ _
        (sym (value-class E G P R r all)
        ∙ value-agreement C (OverRing.powers C.ring (class E w) n) (classes all) product_of (short all l) (omega (arith, few, length-powers C.ring (class E w) n)) distinct
        (All-powers C.ring (class E w) n (λ x. OverRing.value C.ring x (classes all) ≡ OverRing.value C.ring x product_of)
        (λ i b. value-at_point i all ∙ class_same E _ _ (h i b)
        ∙ sym (value-product C.ring (OverRing.power C.ring (class E w) i) (classes left) (classes right) ∙ ap₂ C.product (value-at_point i left) (value-at_point i right))))
        (class E r)
        ∙ value-product C.ring (class E r) (classes left) (classes right) ∙ ap₂ C.product (value-class E G P R r left) (value-class E G P R r right))

    -- where no cell is filled, what is zero on the domain fits
    pub fits-none : (cells q : List A) (filled : List Bool) → length cells ≡ n → length q ≡ n → ((j : ℕ) → j < n → get_or filled j false ≡ false) → ((i : ℕ) → i < n → same (at (point w i) q) zero_of)
        → Fits same zero_of sum product one w cells filled q
    fits-none cells q filled c l none h = record {
      agrees = λ j b t. absurd (true≢false (sym t ∙ none j (omega (arith, b, c))));
      zero_from = λ i b. domain_agreement q [] (omega (arith, l)) (omega arith) (λ j m. h j m) i;
    }

    -- where all are, what has them as its values does
    pub fits-all : (cells q : List A) (filled : List Bool) → length cells ≡ n → length q ≡ n → count_true filled ≡ n
        → ((i : ℕ) → i < n → same (at (point w i) q) (get_or cells i zero_of)) → Fits same zero_of sum product one w cells filled q
    fits-all cells q filled c l all h = record {
      agrees = λ j b t. h j (omega (arith, b, c));
      zero_from = λ i b. rw (get_or_past q i zero_of (omega (arith, b, l, all))) (E.reflexive zero_of);
    }

  root_product-nonzero-same : (r : A) (roots : List A) → All (λ x. ¬ (same r x)) roots → ¬ (same (root_product sum negative product one r roots) zero_of)
  root_product-nonzero-same r roots h e =
      root_product-nonzero C (class E r) (classes roots)
      (λ k d l q. let b : k < length roots = omega (arith, l, length-classes E roots) in h k zero_of b (same_class E _ _ (q ∙ get_or-map (class E) roots k zero_of d b)))
      (root_product-class E G P R r roots ∙ class_same E _ _ e)

  module _ (w s : A) (n : ℕ) (filled : List Bool) (long : length filled ≡ n) (coset : HasCoset same zero_of product one w s n) where
    -- what vanishes at the missing points vanishes nowhere on the coset
    pub coset_nonzero : (v : A → A) → VanishesAt same zero_of sum negative product one (missing_points one product w filled) v → (i : ℕ) → i < n → ¬ (same (v (product s (point w i))) zero_of)
    coset_nonzero v a i l e =
        let r = product s (point w i) in
        product-nonzero C (class E a.factor) (class E (root_product sum negative product one r (missing_points one product w filled))) (λ z. a.factor_is_not_zero (same_class E _ _ z))
        (λ z. root_product-nonzero-same r (missing_points one product w filled)
        (All-missing_items (λ x. ¬ (same r x)) (powers one product w (length filled)) filled
        (λ k d m. let b : k < n = omega (arith, m, long, length-map-range_with_len (point w) 0 (length filled)) in
        let p : get_or (powers one product w (length filled)) k d ≡ point w k = get_or-map-range_with_len (point w) 0 (length filled) k k d (omega (arith, b, long)) (omega arith) in
        rw p (coset.apart i k l b)))
        (same_class E _ _ z))
        (sym (class_same E _ _ (a.gives r)) ∙ class_same E _ _ e)

    -- v vanishes at the missing points, again has its values on the domain, those of g there are the cells times them, and q times again is g at every d-th point of
    -- the coset, of which there are as many as filled cells, or more
    pub recovered-fits : (d m : ℕ) (cells v again g q : List A) → length cells ≡ n → length again ≡ n → length g ≡ n → length q ≡ m → 0 < count_true filled → count_true filled ≤ m
        → 0 < d → d * m ≤ n
        → VanishesAt same zero_of sum negative product one (missing_points one product w filled) (λ r. at r v)
        → ((i : ℕ) → i < n → same (at (point w i) again) (at (point w i) v))
        → ((i : ℕ) → i < n → same (at (point w i) g) (product (get_or cells i zero_of) (at (point w i) v)))
        → ((i : ℕ) → i < m → same (product (at (product s (point w (d * i))) q) (at (product s (point w (d * i))) again)) (at (product s (point w (d * i))) g))
        → Fits same zero_of sum product one w cells filled q
    recovered-fits d m cells v again g q lc la lg lq some few step within a ha hg hq =
        division_on_coset-same E G P R F w s a.factor d m cells filled again g q (long ∙ sym lc) some few step (omega (arith, within, lc)) (subst (HasCoset same zero_of product one w s) (sym lc) coset)
        (record {
          short = omega (arith, la, lc);
          factor_nonzero = a.factor_is_not_zero;
          values = λ i l. let b : i < n = omega (arith, l, lc) in
              let e : length filled ≡ length cells = long ∙ sym lc in
              rw (← e) (E.transitive _ _ _ (ha i b) (a.gives (point w i)));
        })
        (record {
          short = omega (arith, lg, lc);
          values = λ i l. let b : i < n = omega (arith, l, lc) in E.transitive _ _ _ (hg i b) (P.respects _ _ _ _ (E.reflexive (get_or cells i zero_of)) (E.symmetric _ _ (ha i b)));
        })
        (record { short = omega (arith, lq); values = hq })
