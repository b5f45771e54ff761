-- The points below the first place of a tree of square roots, and those of the tree of the inverses.
use Rattle.std.proofs.Common.{◌≡◌, ◌≢◌, ◌∙◌, inl, inr, ℕ, suc, ◌+◌, ◌-◌, ◌*◌, ◌/◌, ◌%◌, ◌^◌, ◌<◌, ◌≤◌, List, [], ◌∷◌, refl, sym, ap, arith}
use Rattle.std.proofs.lemmas.Bool.{cases_eq}
use Rattle.math_theory.specs.BitReversal.{bit_reversed}
use Rattle.math_theory.specs.Laws.{IsEquality, IsGroup, IsProduct, IsRing}
use Rattle.math_theory.specs.OverRing as OverRing
use Rattle.math_theory.specs.Rings.{CommutativeRing}
use Rattle.math_theory.proofs.classes.Classes.{Class, class, class_same, ring_of_classes}
use Rattle.math_theory.proofs.domains.RootOrders.{power_of_two-suc}
use Rattle.math_theory.proofs.rings.Normal.{ring, ◌⊗◌, minus, 𝟙, v0, v1}
use Rattle.math_theory.proofs.rings.PowerLaws.{power-add, power-one}
use Rattle.math_theory.proofs.transforms.BitOrder.{bit_reversed-suc}
use Rattle.math_base.specs.Members.{RingOf}
use Rattle.math_transforms.specs.RootTrees.{IsTreeOf, class_at, entry}
use Rattle.math_transforms.proofs.TreeEntries.{placed-class}

module _ {A : Type 0} (R : RingOf A) where
  -- the class of an even place is an entry, and that of an odd place its negative
  pub class-even : (roots : List A) (j : ℕ) → j % 2 ≡ 0 → class_at R roots j ≡ entry R roots (j / 2)
  class-even roots j e = rw e refl

  pub class-odd : (roots : List A) (j : ℕ) → j % 2 ≢ 0 → class_at R roots j ≡ R.negative (entry R roots (j / 2))
  class-odd roots j e = let one : j % 2 ≡ 1 = omega (arith, e) in rw one refl

module _ {A : Type 0} (R : RingOf A) (E : IsEquality R.same) (G : IsGroup R.same R.zero R.sum R.negative) (P : IsProduct R.same R.product) (L : IsRing R.same R.sum R.product R.one) where
  abbrev C : CommutativeRing (Class E)
  C = ring_of_classes E G P L

  module _ (root : ℕ → A) (start : A) (lg : ℕ) (tree : List A) (T : IsTreeOf R root start (suc lg) tree)
      (half : OverRing.power C (class E (root (suc lg))) (2 ^ lg) ≡ C.negative C.one) where
    abbrev w : Class E
    w = class E (root (suc lg))

    abbrev s : Class E
    s = class E start

    -- an entry of the last level
    last : (b : ℕ) → b < 2 ^ lg → class E (entry R tree (2 ^ lg + b)) ≡ C.product s (OverRing.power C w (bit_reversed lg b))
    last b m =
        let none : suc lg - lg - 1 ≡ 0 = omega arith in
        class_same E _ _ (T.entries lg b (omega arith) m) ∙ placed-class R E G P L root start (root (suc lg)) (2 ^ (suc lg - lg - 1)) (bit_reversed lg b)
        ∙ ap (λ n. C.product (OverRing.power C s (2 ^ n)) (OverRing.power C w (bit_reversed lg b))) none
        ∙ ap (λ x. C.product x (OverRing.power C w (bit_reversed lg b))) (power-one C s)

    -- point t below the tree
    pub point-class : (t : ℕ) → t < 2 ^ suc lg → class E (class_at R tree (2 ^ suc lg + t)) ≡ C.product s (OverRing.power C w (bit_reversed (suc lg) t))
    point-class t l =
        let double : 2 ^ suc lg ≡ 2 ^ lg + 2 ^ lg = power_of_two-suc lg in
        let place : (2 ^ suc lg + t) / 2 ≡ 2 ^ lg + t / 2 = omega (arith, double) in
        let within : t / 2 < 2 ^ lg = omega (arith, double, l) in
        let y = OverRing.power C w (bit_reversed lg (t / 2)) in
        elim (cases_eq (t % 2) 0) [
          | inl even ↦
              let here : (2 ^ suc lg + t) % 2 ≡ 0 = omega (arith, double, even) in
              let bits : bit_reversed (suc lg) t ≡ bit_reversed lg (t / 2) = bit_reversed-suc lg t ∙ (rw even (omega arith)) in
              ap (class E) (class-even R tree (2 ^ suc lg + t) here ∙ ap (entry R tree) place) ∙ last (t / 2) within ∙ ap (λ i. C.product s (OverRing.power C w i)) (sym bits)
          | inr odd ↦
              let here : (2 ^ suc lg + t) % 2 ≢ 0 = λ e. omega (arith, double, odd, e) in
              let one : t % 2 ≡ 1 = omega (arith, odd) in
              let bits : bit_reversed (suc lg) t ≡ 2 ^ lg + bit_reversed lg (t / 2) = bit_reversed-suc lg t ∙ (rw one (omega arith)) in
              ap (class E) (class-odd R tree (2 ^ suc lg + t) here ∙ ap (λ i. R.negative (entry R tree i)) place)
              ∙ ap C.negative (last (t / 2) within)
              ∙ sym (ap (λ i. C.product s (OverRing.power C w i)) bits ∙ ap (C.product s) (power-add C w (2 ^ lg) (bit_reversed lg (t / 2)) ∙ ap (λ x. C.product x y) half)
              ∙ ring C (s ∷ y ∷ []) (v0 ⊗ (minus 𝟙 ⊗ v1)) (minus (v0 ⊗ v1)) refl)
        ]
