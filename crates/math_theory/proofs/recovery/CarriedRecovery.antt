-- The theorems on recovery, up to a type's own equality.
use Rattle.std.proofs.Common.{◌≡◌, ℕ, ◌*◌, ◌<◌, ◌≤◌, List, Bool, length, map, sym, ◌∙◌, ap, ap₂, subst, arith}
use Rattle.math_theory.specs.Coefficients.{HaveSameCoefficients}
use Rattle.math_theory.specs.Interpolation.{AreApart}
use Rattle.math_theory.specs.Laws.{IsEquality, IsGroup, IsProduct, IsRing, IsField}
use Rattle.math_theory.specs.OverRing as OverRing
use Rattle.math_theory.specs.Powers.{power, powers}
use Rattle.math_theory.specs.Recovery.{count_true, missing_items, Fits}
use Rattle.math_theory.specs.RecoveryOnCoset.{HasCoset, VanishesAtMissing, HasProductValues, DividesOnCoset}
use Rattle.math_theory.specs.Rings.{Field}
use Rattle.math_theory.specs.Values.{value}
use Rattle.math_theory.proofs.classes.Classes.{Class, class, class_same, same_class, field_of_classes}
use Rattle.math_theory.proofs.classes.ClassesOfLists.{length-classes, AreDistinct-classes, HaveSameCoefficients-from_classes, power-class, powers-class, value-class, coefficient-class, root_product-class}
use Rattle.math_theory.proofs.recovery.FilledItems.{missing_items-map}
use Rattle.math_theory.proofs.recovery.Recovery.{Fits-unique, Fits-from_division}

module _ {A : Type 0} {same : A → A → Type 0} {zero : A} {sum : A → A → A} {negative : A → A} {product : A → A → A} {one : A} {inverse : A → A}
    (E : IsEquality same) (G : IsGroup same zero sum negative) (P : IsProduct same product) (R : IsRing same sum product one) (F : IsField same zero product one inverse) where
  abbrev classes : Field (Class E)
  classes = field_of_classes E G P R F

  abbrev classes_of : List A → List (Class E)
  classes_of xs = map (class E) xs

  abbrev value_of : A → List A → A
  value_of r p = value zero sum product one r p

  value-at_power : (w : A) (i : ℕ) (p : List A) → OverRing.value classes.ring (OverRing.power classes.ring (class E w) i) (classes_of p) ≡ class E (value_of (power one product w i) p)
  value-at_power w i p = ap (λ x. OverRing.value classes.ring x (classes_of p)) (power-class E G P R w i) ∙ value-class E G P R (power one product w i) p

  Fits-classes : (w : A) (cells : List A) (filled : List Bool) (q : List A) → Fits same zero sum product one w cells filled q
      → OverRing.Fits classes.ring (class E w) (classes_of cells) filled (classes_of q)
  Fits-classes w cells filled q h = record {
    agrees = λ j l t. value-at_power w j q ∙ class_same E _ _ (h.agrees j (omega (arith, l, length-classes E cells)) t) ∙ sym (coefficient-class E G P R cells j);
    zero_from = λ i l. coefficient-class E G P R q i ∙ class_same E _ _ (h.zero_from i l);
  }

  Fits-from_classes : (w : A) (cells : List A) (filled : List Bool) (q : List A)
      → OverRing.Fits classes.ring (class E w) (classes_of cells) filled (classes_of q) → Fits same zero sum product one w cells filled q
  Fits-from_classes w cells filled q h = record {
    agrees = λ j l t. same_class E _ _ (sym (value-at_power w j q) ∙ h.agrees j (omega (arith, l, length-classes E cells)) t ∙ coefficient-class E G P R cells j);
    zero_from = λ i l. same_class E _ _ (sym (coefficient-class E G P R q i) ∙ h.zero_from i l);
  }

  powers-distinct : (w : A) (n : ℕ) → AreApart same (powers one product w n) → OverRing.AreDistinct (OverRing.powers classes.ring (class E w) n)
  powers-distinct w n d = subst (λ xs. OverRing.AreDistinct xs) (sym (powers-class E G P R w n)) (AreDistinct-classes E zero (powers one product w n) d)

  -- all polynomials that fit have the same coefficients
  pub fits_once-same : (w : A) (cells : List A) (filled : List Bool) → length filled ≡ length cells → AreApart same (powers one product w (length cells))
      → (p q : List A) → Fits same zero sum product one w cells filled p → Fits same zero sum product one w cells filled q → HaveSameCoefficients same zero p q
  fits_once-same w cells filled e d p q h k =
      HaveSameCoefficients-from_classes E G P R p q
      (Fits-unique classes (class E w) (length cells) (classes_of cells) filled (length-classes E cells) e (powers-distinct w (length cells) d)
      (classes_of p) (classes_of q) (Fits-classes w cells filled p h) (Fits-classes w cells filled q k))

  HasCoset-classes : (w s : A) (n : ℕ) → HasCoset same zero product one w s n → OverRing.HasCoset classes.ring (class E w) (class E s) n
  HasCoset-classes w s n h = record {
    distinct = powers-distinct w n h.distinct;
    shift_nonzero = λ e. h.shift_nonzero (same_class E _ _ e);
    apart = λ i j l m e. h.apart i j l m (same_class E _ _ (sym (ap (classes.product (class E s)) (power-class E G P R w i)) ∙ e ∙ power-class E G P R w j));
  }

  VanishesAtMissing-classes : (w : A) (n : ℕ) (filled : List Bool) (u : A) (v : List A)
      → VanishesAtMissing same zero sum negative product one w n filled u v → OverRing.VanishesAtMissing classes.ring (class E w) n filled (class E u) (classes_of v)
  VanishesAtMissing-classes w n filled u v h = record {
    short = omega (arith, h.short, length-classes E v);
    factor_nonzero = λ e. h.factor_nonzero (same_class E _ _ e);
    values = λ i l.
        value-at_power w i v ∙ class_same E _ _ (h.values i l)
        ∙ sym (ap (classes.product (class E u))
        (ap₂ (OverRing.root_product classes.ring) (power-class E G P R w i)
        (ap (λ xs. missing_items xs filled) (powers-class E G P R w n) ∙ missing_items-map (class E) (powers one product w n) filled)
        ∙ root_product-class E G P R (power one product w i) (missing_items (powers one product w n) filled)));
  }

  HasProductValues-classes : (w : A) (n : ℕ) (cells v g : List A)
      → HasProductValues same zero sum product one w n cells v g → OverRing.HasProductValues classes.ring (class E w) n (classes_of cells) (classes_of v) (classes_of g)
  HasProductValues-classes w n cells v g h = record {
    short = omega (arith, h.short, length-classes E g);
    values = λ i l. value-at_power w i g ∙ class_same E _ _ (h.values i l) ∙ sym (ap₂ classes.product (coefficient-class E G P R cells i) (value-at_power w i v));
  }

  value-on_coset : (w s : A) (i : ℕ) (p : List A)
      → OverRing.value classes.ring (classes.product (class E s) (OverRing.power classes.ring (class E w) i)) (classes_of p) ≡ class E (value_of (product s (power one product w i)) p)
  value-on_coset w s i p = ap (λ x. OverRing.value classes.ring (classes.product (class E s) x) (classes_of p)) (power-class E G P R w i) ∙ value-class E G P R (product s (power one product w i)) p

  DividesOnCoset-classes : (w s : A) (d m : ℕ) (v g q : List A)
      → DividesOnCoset same zero sum product one w s d m v g q → OverRing.DividesOnCoset classes.ring (class E w) (class E s) d m (classes_of v) (classes_of g) (classes_of q)
  DividesOnCoset-classes w s d m v g q h = record {
    short = omega (arith, h.short, length-classes E q);
    values = λ i l. ap₂ classes.product (value-on_coset w s (d * i) q) (value-on_coset w s (d * i) v) ∙ class_same E _ _ (h.values i l) ∙ sym (value-on_coset w s (d * i) g);
  }

  -- what division on a coset gives fits the filled cells, where there is one, and no more than the points of the coset
  pub division_on_coset-same : (w s u : A) (d m : ℕ) (cells : List A) (filled : List Bool) (v g q : List A) → length filled ≡ length cells → 0 < count_true filled → count_true filled ≤ m
      → 0 < d → d * m ≤ length cells
      → HasCoset same zero product one w s (length cells) → VanishesAtMissing same zero sum negative product one w (length cells) filled u v
      → HasProductValues same zero sum product one w (length cells) cells v g → DividesOnCoset same zero sum product one w s d m v g q
      → Fits same zero sum product one w cells filled q
  division_on_coset-same w s u d m cells filled v g q e some few step within coset V H Q =
      Fits-from_classes w cells filled q
      (Fits-from_division classes (class E w) (class E s) (class E u) (length cells) d m (classes_of cells) filled (classes_of v) (classes_of g) (classes_of q) (length-classes E cells) e some few step within
      (HasCoset-classes w s (length cells) coset) (VanishesAtMissing-classes w (length cells) filled u v V)
      (HasProductValues-classes w (length cells) cells v g H) (DividesOnCoset-classes w s d m v g q Q))
