-- Domains up to a type's own equality: exact orders, cosets, and the product over all points, carried from the classes.
use Rattle.std.proofs.Common.{◌≡◌, ℕ, zero, suc, ◌<◌, ◌^◌, List, Bool, length, get_or, sym, ◌∙◌, ap, subst, arith}
use Rattle.std.proofs.lemmas.List.FromFn.{length-map-range_with_len, get_or-map-range_with_len}
use Rattle.math_theory.specs.Interpolation.{AreApart}
use Rattle.math_theory.specs.Recovery.{missing_items}
use Rattle.math_theory.specs.Laws.{IsEquality, IsGroup, IsProduct, IsRing, IsField}
use Rattle.math_theory.specs.Rings.{CommutativeRing}
use Rattle.math_theory.specs.OverRing as OverRing
use Rattle.math_theory.specs.Powers.{power, powers}
use Rattle.math_theory.specs.RootProducts.{root_product}
use Rattle.math_theory.specs.RecoveryOnCoset.{HasCoset}
use Rattle.math_theory.specs.Domains.{HasExactOrder, IsPrincipalRoot, IsNoPower}
use Rattle.math_theory.specs.DomainsOverRing as DomainsOverRing
use Rattle.math_theory.specs.Vanishing.{missing_points, missing_product}
use Rattle.math_theory.proofs.classes.Classes.{Class, class, class_same, same_class, ring_of_classes, field_of_classes}
use Rattle.math_theory.proofs.classes.ClassesOfLists.{power-class, powers-class, root_product-class}
use Rattle.math_theory.proofs.recovery.FilledItems.{missing_items-map}
use Rattle.math_theory.proofs.domains.PowerLists.{power-apart, coset-apart}
use Rattle.math_theory.proofs.domains.RootOrders.{IsPrincipalRoot-of_order}
use Rattle.math_theory.proofs.domains.RootProductLists.{root_product-powers}

module _ {A : Type 0} {same : A → A → Type 0} {zero_of : A} {sum : A → A → A} {negative : A → A} {product : A → A → A} {one : A}
    (E : IsEquality same) (G : IsGroup same zero_of sum negative) (P : IsProduct same product) (R : IsRing same sum product one) where
  abbrev C : CommutativeRing (Class E)
  C = ring_of_classes E G P R

  pub HasExactOrder-classes : (w : A) (n : ℕ) → HasExactOrder same one product w n → DomainsOverRing.HasExactOrder C (class E w) n
  HasExactOrder-classes w n o = record {
    positive = o.positive;
    power_is_one = power-class E G P R w n ∙ class_same E _ _ o.power_is_one;
    least = λ m positive small e. o.least m positive small (same_class E _ _ (sym (power-class E G P R w m) ∙ e));
  }

  IsPrincipalRoot-classes : (lg : ℕ) (w : A) → IsPrincipalRoot same one negative product lg w → DomainsOverRing.IsPrincipalRoot C lg (class E w)
  IsPrincipalRoot-classes zero w h = class_same E _ _ h
  IsPrincipalRoot-classes (suc lg) w h = power-class E G P R w (2 ^ lg) ∙ class_same E _ _ h

  IsPrincipalRoot-from_classes : (lg : ℕ) (w : A) → DomainsOverRing.IsPrincipalRoot C lg (class E w) → IsPrincipalRoot same one negative product lg w
  IsPrincipalRoot-from_classes zero w h = same_class E _ _ h
  IsPrincipalRoot-from_classes (suc lg) w h = same_class E _ _ (sym (power-class E G P R w (2 ^ lg)) ∙ h)

  -- the powers of a root of exact order n are apart
  pub powers_apart-same : (w : A) (n : ℕ) → HasExactOrder same one product w n → AreApart same (powers one product w n)
  powers_apart-same w n o i j d l m e =
      let b : j < n = omega (arith, m, long) in
      power-apart C (class E w) n i j (HasExactOrder-classes w n o) l b
      (power-class E G P R w i ∙ class_same E _ _
      (subst (λ x. same x (power one product w j)) (at i (omega arith)) (subst (λ y. same (get_or (powers one product w n) i d) y) (at j b) e)) ∙ sym (power-class E G P R w j))
    where
      long : length (powers one product w n) ≡ n
      long = length-map-range_with_len (power one product w) 0 n

      at : (i : ℕ) → i < n → get_or (powers one product w n) i d ≡ power one product w i
      at i l = get_or-map-range_with_len (power one product w) 0 n i i d l (omega arith)

  -- and so is their coset by a number that is no power of it
  pub HasCoset-of_order-same : (w s : A) (n : ℕ) → HasExactOrder same one product w n → ¬ (same s zero_of) → IsNoPower same one product w s → HasCoset same zero_of product one w s n
  HasCoset-of_order-same w s n o nonzero outside = record {
    distinct = powers_apart-same w n o;
    shift_nonzero = nonzero;
    apart = λ i j l m e.
        coset-apart C (class E w) (class E s) n o.positive (power-class E G P R w n ∙ class_same E _ _ o.power_is_one)
        (λ k f. outside k (same_class E _ _ (f ∙ power-class E G P R w k))) i j
        (ap (C.product (class E s)) (power-class E G P R w i) ∙ class_same E _ _ e ∙ sym (power-class E G P R w j));
  }

  -- over the whole domain of n points the product is r ^ n - 1
  pub root_product-powers-same : (lg : ℕ) (r w : A) → IsPrincipalRoot same one negative product lg w
      → same (root_product sum negative product one r (powers one product w (2 ^ lg))) (sum (power one product r (2 ^ lg)) (negative one))
  root_product-powers-same lg r w h =
      same_class E _ _
      (sym (ap (OverRing.root_product C (class E r)) (powers-class E G P R w (2 ^ lg)) ∙ root_product-class E G P R r (powers one product w (2 ^ lg)))
      ∙ root_product-powers C lg (class E r) (class E w) (IsPrincipalRoot-classes lg w h)
      ∙ ap (λ x. C.sum x (C.negative C.one)) (power-class E G P R r (2 ^ lg)))

  -- the class of a product over the missing points
  pub missing_product-class : (r w : A) (filled : List Bool) → DomainsOverRing.missing_product C (class E r) (class E w) filled ≡ class E (missing_product sum negative product one r w filled)
  missing_product-class r w filled =
      ap (λ xs. OverRing.root_product C (class E r) (missing_items xs filled)) (powers-class E G P R w (length filled))
      ∙ ap (OverRing.root_product C (class E r)) (missing_items-map (class E) (powers one product w (length filled)) filled)
      ∙ root_product-class E G P R r (missing_points one product w filled)

  module _ {inverse : A → A} (F : IsField same zero_of product one inverse) where
    -- in a field a root of exact order 2 ^ lg is principal: the power at half of it is minus one
    pub IsPrincipalRoot-of_order-same : (lg : ℕ) (w : A) → HasExactOrder same one product w (2 ^ lg) → IsPrincipalRoot same one negative product lg w
    IsPrincipalRoot-of_order-same lg w o = IsPrincipalRoot-from_classes lg w (IsPrincipalRoot-of_order (field_of_classes E G P R F) lg (class E w) (HasExactOrder-classes w (2 ^ lg) o))
