-- Decoding from points and values that are same as others, place by place.
use Rattle.std.proofs.Common.{◌≡◌, ℕ, ◌<◌, List, length, map, get_or, sym, ◌∙◌, ap, arith}
use Rattle.math_theory.specs.Decoding.{AgreesOutside, AreWrongPlaces, IsWithinRadius}
use Rattle.math_theory.specs.Laws.{IsEquality, IsGroup, IsProduct, IsRing}
use Rattle.math_theory.specs.OverRing as OverRing
use Rattle.math_theory.specs.Values.{value}
use Rattle.math_theory.proofs.classes.Classes.{class, class_same, same_class, ring_of_classes}
use Rattle.math_theory.proofs.classes.ClassesOfLists.{value-class}

-- as many items, and same place by place
pub record AreAlike {A : Type 0} (same : A → A → Type 0) (zero : A) (xs ys : List A) : Type 0 where
  pub count : length xs ≡ length ys
  pub alike : (i : ℕ) → i < length xs → same (get_or xs i zero) (get_or ys i zero)

module _ {A : Type 0} {same : A → A → Type 0} {zero : A} {sum : A → A → A} {negative : A → A} {product : A → A → A} {one : A}
    (E : IsEquality same) (G : IsGroup same zero sum negative) (P : IsProduct same product) (R : IsRing same sum product one) where
  value-at : (r s : A) (p : List A) → same r s → same (value zero sum product one r p) (value zero sum product one s p)
  value-at r s p h =
      same_class E _ _
      (sym (value-class E G P R r p) ∙ ap (λ x. OverRing.value (ring_of_classes E G P R) x (map (class E) p)) (class_same E _ _ h) ∙ value-class E G P R s p)

  pub alike-back : (xs ys : List A) → AreAlike same zero xs ys → AreAlike same zero ys xs
  alike-back xs ys h = record { count = sym h.count; alike = λ i l. E.symmetric _ _ (h.alike i (omega (arith, l, h.count))) }

  agrees-alike : (xs ys vs ws a : List A) (i : ℕ) → AreAlike same zero xs ys → AreAlike same zero vs ws → length vs ≡ length xs → i < length xs
      → same (value zero sum product one (get_or xs i zero) a) (get_or vs i zero) → same (value zero sum product one (get_or ys i zero) a) (get_or ws i zero)
  agrees-alike xs ys vs ws a i h k e l s =
      E.transitive _ _ _ (value-at (get_or ys i zero) (get_or xs i zero) a (E.symmetric _ _ (h.alike i l))) (E.transitive _ _ _ s (k.alike i (omega (arith, l, e))))

  outside-alike : (xs ys vs ws a : List A) (places : List ℕ) → AreAlike same zero xs ys → AreAlike same zero vs ws → length vs ≡ length xs
      → AgreesOutside same zero sum product one xs vs places a → AgreesOutside same zero sum product one ys ws places a
  outside-alike xs ys vs ws a places h k e o i l n =
      let m : i < length xs = omega (arith, l, h.count) in agrees-alike xs ys vs ws a i h k e m (o i m n)

  -- what is within the radius of the one is within that of the other
  pub radius-alike : (xs ys vs ws a : List A) (count : ℕ) → AreAlike same zero xs ys → AreAlike same zero vs ws → length vs ≡ length xs
      → IsWithinRadius same zero sum product one xs vs count a → IsWithinRadius same zero sum product one ys ws count a
  radius-alike xs ys vs ws a count h k e w = (w.0, w.1, omega (arith, w.2, h.count), outside-alike xs ys vs ws a w.1 h k e w.3)

  -- and wrong places are the same
  pub places-alike : (xs ys vs ws a : List A) (wrong : List ℕ) → AreAlike same zero xs ys → AreAlike same zero vs ws → length vs ≡ length xs
      → AreWrongPlaces same zero sum product one xs vs a wrong → AreWrongPlaces same zero sum product one ys ws a wrong
  places-alike xs ys vs ws a wrong h k e w = record {
    rising = w.rising;
    below = λ j d l. omega (arith, w.below j d l, h.count);
    differ = λ j d l s. w.differ j d l (agrees-alike ys xs ws vs a (get_or wrong j d) (alike-back xs ys h) (alike-back vs ws k) (omega (arith, e, h.count, k.count))
        (omega (arith, w.below j d l, h.count)) s);
    agree = outside-alike xs ys vs ws a wrong h k e w.agree;
  }
