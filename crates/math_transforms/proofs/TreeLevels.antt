-- Levels added to a tree of square roots, and levels that are scaled.
use Rattle.std.proofs.Common.{◌≡◌, ◌≢◌, ◌∙◌, inl, inr, ℕ, suc, ◌+◌, ◌-◌, ◌^◌, ◌<◌, ◌≤◌, List, [], ◌∷◌, ◌++◌, length, take, drop, get_or, sym, ap, ap₂, length-append, length-drop, pow_pos, arith}
use Rattle.std.proofs.lemmas.Bool.{cases_lt}
use Rattle.std.proofs.lemmas.List.{get_or_append_left, get_or-append-add, get_or-drop, get_or-take, length-take-le}
use Rattle.math_theory.specs.Laws.{IsEquality, IsGroup, IsProduct, IsRing}
use Rattle.math_theory.specs.OverRing as OverRing
use Rattle.math_theory.specs.Powers.{power}
use Rattle.math_theory.specs.Rings.{CommutativeRing}
use Rattle.math_theory.proofs.classes.Classes.{Class, class, class_same, same_class, ring_of_classes}
use Rattle.math_theory.proofs.classes.ClassesOfLists.{power-class}
use Rattle.math_theory.proofs.domains.RootOrders.{power_of_two-suc}
use Rattle.math_theory.proofs.rings.PowerLaws.{power-add, power-one, power-product}
use Rattle.math_base.specs.Members.{RingOf}
use Rattle.math_transforms.specs.RootTrees.{entry}
use Rattle.math_transforms.specs.TreeLevels.{AddsMade, AreLevelsScaled}
use Rattle.math_transforms.proofs.PowersOfTwo.{power_of_two-double, power_of_two-rises}

module _ {A : Type 0} (R : RingOf A) where
  -- and one more
  pub made-more : (f : A → A) (from n : ℕ) (old mid new : List A) (x : A) → from + n < length old → AddsMade R f from n old mid → R.same x (f (entry R mid (from + n)))
      → new ≡ mid ++ (x ∷ []) → AddsMade R f from (n + 1) old new
  made-more f from n old mid new x l h s is =
      let long : length (mid ++ (x ∷ [])) ≡ length mid + 1 = length-append mid (x ∷ []) in
      let one : R.same x (f (entry R old (from + n))) = rw (h.kept (from + n) l) at s in
      rw is record {
        count = omega (arith, long, h.count);
        kept = λ p q. get_or_append_left mid (x ∷ []) R.zero p (omega (arith, q, h.count)) ∙ h.kept p q;
        added = λ i q. elim (cases_lt i n) [
          | inl b ↦ rw (get_or_append_left mid (x ∷ []) R.zero (length old + i) (omega (arith, b, h.count))) (h.added i b)
          | inr a ↦
              let same_place : i ≡ n = omega (arith, q, a) in
              let last : length old + i ≡ length mid + 0 = omega (arith, same_place, h.count) in
              rw (last, get_or-append-add mid (x ∷ []) 0 R.zero, same_place) one
        ];
      }

module _ {A : Type 0} (R : RingOf A) (E : IsEquality R.same) (G : IsGroup R.same R.zero R.sum R.negative) (P : IsProduct R.same R.product) (L : IsRing R.same R.sum R.product R.one) where
  abbrev C : CommutativeRing (Class E)
  C = ring_of_classes E G P L

  -- the power of a square
  square-power : (start square : A) (n m : ℕ) → R.same square (R.product start start) → m ≡ n + n → class E (power R.one R.product square n) ≡ class E (power R.one R.product start m)
  square-power start square n m h e =
      sym (power-class E G P L square n) ∙ ap (λ x. OverRing.power C x n) (class_same E _ _ h) ∙ power-product C (class E start) (class E start) n
      ∙ sym (power-add C (class E start) n n) ∙ ap (OverRing.power C (class E start)) (sym e) ∙ power-class E G P L start m

  -- the last level is scaled by the start, and the others by its square
  pub scaled-more : (start square : A) (lg half : ℕ) (old below level new_below new_level : List A) → lg ≢ 0 → half ≡ 2 ^ (lg - 1) → length old ≡ 2 ^ lg
      → below ≡ take half old → level ≡ drop half old → length new_below ≡ length below
      → R.same square (R.product start start) → ((k : ℕ) → k < length level → R.same (get_or new_level k R.zero) (R.product (get_or level k R.zero) start))
      → AreLevelsScaled R square (lg - 1) below new_below → AreLevelsScaled R start lg old (new_below ++ new_level)
  scaled-more start square lg half old below level new_below new_level some half_is count below_is level_is kept square_is times h =
      let double : 2 ^ lg ≡ 2 ^ (lg - 1) + 2 ^ (lg - 1) = power_of_two-double lg (omega (arith, some)) in
      let level_long : length level ≡ half = ap length level_is ∙ omega (arith, length-drop half old, count, double, half_is) in
      let below_long : length below ≡ half = ap length below_is ∙ length-take-le half old (omega (arith, count, double, half_is)) in
      let left = λ (p : ℕ) (l : p < half). get_or_append_left new_below new_level R.zero p (omega (arith, kept, below_long, l)) in
      let under = λ (p : ℕ) (l : p < half). ap (λ xs. get_or xs p R.zero) below_is ∙ get_or-take half old p R.zero l in
      record {
        first = let z : 0 < half = omega (arith, half_is, pow_pos (lg - 1)) in left 0 z ∙ h.first ∙ under 0 z;
        entries = λ d b l m. elim (cases_lt d (lg - 1)) [
          | inl lower ↦
              let up : 2 ^ suc d ≤ 2 ^ (lg - 1) = power_of_two-rises (suc d) (lg - 1) (omega (arith, lower)) in
              let place : 2 ^ d + b < half = omega (arith, up, power_of_two-suc d, m, half_is) in
              let n = lg - 1 - d - 1 in
              let next : lg - d - 1 ≡ suc n = omega (arith, lower) in
              let twice : 2 ^ (lg - d - 1) ≡ 2 ^ n + 2 ^ n = ap (λ i. 2 ^ i) next ∙ power_of_two-suc n in
              rw (left (2 ^ d + b) place, ← under (2 ^ d + b) place)
              (same_class E _ _ (class_same E _ _ (h.entries d b lower m) ∙ ap (C.product (class E (entry R below (2 ^ d + b)))) (square-power start square (2 ^ n) (2 ^ (lg - d - 1)) square_is twice)))
          | inr last ↦
              let e : d ≡ lg - 1 = omega (arith, l, last) in
              let at : 2 ^ d ≡ length new_below = ap (λ i. 2 ^ i) e ∙ omega (arith, half_is, below_long, kept) in
              let from : 2 ^ d ≡ half = ap (λ i. 2 ^ i) e ∙ sym half_is in
              let none : lg - d - 1 ≡ 0 = omega (arith, e) in
              let exponent : 2 ^ (lg - d - 1) ≡ 1 = ap (λ i. 2 ^ i) none in
              let here : entry R (new_below ++ new_level) (2 ^ d + b) ≡ entry R new_level b = ap (λ i. get_or (new_below ++ new_level) (i + b) R.zero) at ∙ get_or-append-add new_below new_level b R.zero in
              let there : entry R old (2 ^ d + b) ≡ entry R level b = ap (λ i. get_or old (i + b) R.zero) from ∙ sym (ap (λ xs. get_or xs b R.zero) level_is ∙ get_or-drop half old b R.zero) in
              same_class E _ _
              (ap (class E) here ∙ class_same E _ _ (times b (omega (arith, level_long, from, m)))
              ∙ ap₂ C.product (ap (class E) (sym there))
              (sym (power-one C (class E start)) ∙ ap (OverRing.power C (class E start)) (sym exponent) ∙ power-class E G P L start (2 ^ (lg - d - 1))))
        ];
      }
