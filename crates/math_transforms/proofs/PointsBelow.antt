-- Powers of the points below a place of a tree of square roots, in a commutative ring.
use Rattle.std.proofs.Common.{◌≡◌, ◌≢◌, ◌∙◌, ℕ, zero, suc, ◌+◌, ◌*◌, ◌/◌, ◌%◌, ◌<◌, ◌≤◌, ◌^◌, ◌==◌, if◌then◌else◌, Bool, true, false, List, [], ◌∷◌, length, inl, inr, refl, sym, ap, pow_pos, None, arith}
use Rattle.std.proofs.lemmas.Bool.{cases_eq}
use Rattle.std.proofs.lemmas.Nat.{mul-le}
use Rattle.math_theory.specs.OverRing as OverRing
use Rattle.math_theory.specs.Rings.{CommutativeRing}
use Rattle.math_theory.proofs.domains.RootOrders.{power_of_two-suc}
use Rattle.math_theory.proofs.rings.Normal.{ring, combine, ◌⊗◌, minus, 𝟙, v0, v1}
use Rattle.math_theory.proofs.rings.PowerLaws.{power-add, power-of_one, power-one, power-product}
use Rattle.math_base.specs.Members.{RingOf}
use Rattle.math_transforms.specs.RootTrees.{IsRootTree, class_at, entry}
use Rattle.math_base.proofs.Members.{ring_members}

module _ {K : Type 0} (C : CommutativeRing K) where
  -- its members, where equal elements are the same
  abbrev pub plain : RingOf K
  plain = ring_members C.product (λ a. None) (λ a b. a ≡ b) true C.zero C.sum C.negative C.one

  -- the class of an even place is an entry, and that of an odd place its negative
  class-even : (roots : List K) (j : ℕ) → j % 2 ≡ 0 → class_at plain roots j ≡ entry plain roots (j / 2)
  class-even roots j e = rw e refl

  class-odd : (roots : List K) (j : ℕ) → j % 2 ≢ 0 → class_at plain roots j ≡ C.negative (entry plain roots (j / 2))
  class-odd roots j e = let one : j % 2 ≡ 1 = omega (arith, e) in rw one refl

  pub class-twice : (roots : List K) (p : ℕ) → class_at plain roots (2 * p) ≡ entry plain roots p
  class-twice roots p = class-even roots (2 * p) (omega arith) ∙ ap (entry plain roots) (let half : 2 * p / 2 ≡ p = omega arith in half)

  pub class-twice_more : (roots : List K) (p : ℕ) → class_at plain roots (2 * p + 1) ≡ C.negative (entry plain roots p)
  class-twice_more roots p =
      class-odd roots (2 * p + 1) (λ e. omega (arith, e)) ∙ ap (λ i. C.negative (entry plain roots i)) (let half : (2 * p + 1) / 2 ≡ p = omega arith in half)

  -- the square of an element or of minus it
  signed-square : (b : Bool) (x : K) → C.product (if b then x else C.negative x) (if b then x else C.negative x) ≡ C.product x x
  signed-square true x = refl
  signed-square false x = ring C (x ∷ []) (minus v0 ⊗ minus v0) (v0 ⊗ v0) refl

  module _ (turn : K) (roots : List K) (tree : IsRootTree plain turn roots) where
    -- the square of an entry from place 2 on is the class of its place
    entry-square : C.product turn turn ≡ C.negative C.one → (j : ℕ) → 2 ≤ j → j < length roots → C.product (entry plain roots j) (entry plain roots j) ≡ class_at plain roots j
    entry-square square j least within =
        let m = j / 2 in
        elim (cases_eq (j % 2) 0) [
          | inl even ↦
              let at : 2 * m ≡ j = omega (arith, even) in
              let there : C.product (entry plain roots (2 * m)) (entry plain roots (2 * m)) ≡ entry plain roots m = tree.even m (omega (arith, least)) (omega (arith, at, within)) in
              ap (λ i. C.product (entry plain roots i) (entry plain roots i)) (sym at) ∙ there ∙ sym (class-even roots j even)
          | inr odd ↦
              let at : 2 * m + 1 ≡ j = omega (arith, odd) in
              let e = entry plain roots (2 * m) in
              let there : C.product e e ≡ entry plain roots m = tree.even m (omega (arith, least, odd)) (omega (arith, at, within)) in
              let turned : entry plain roots (2 * m + 1) ≡ C.product e turn = tree.odd m (omega (arith, least, odd)) (omega (arith, at, within)) in
              ap (λ i. C.product (entry plain roots i) (entry plain roots i)) (sym at)
              ∙ ap (λ x. C.product x x) turned
              ∙ combine C (e ∷ turn ∷ []) ((v0 ⊗ v1) ⊗ (v0 ⊗ v1)) (minus (v0 ⊗ v0)) (v0 ⊗ v0) (v1 ⊗ v1) (minus 𝟙) square refl
              ∙ ap C.negative there
              ∙ sym (class-odd roots j odd)
        ]

    -- the square of the class of a place is the class of half of it
    class-square : C.product turn turn ≡ C.negative C.one → (l : ℕ) → 2 ≤ l / 2 → l / 2 < length roots → C.product (class_at plain roots l) (class_at plain roots l) ≡ class_at plain roots (l / 2)
    class-square square l least within = signed-square (l % 2 == 0) (entry plain roots (l / 2)) ∙ entry-square square (l / 2) least within

    -- power 2^h of a point that is h levels below a place is the class of the place
    pub point-power : (h t p : ℕ) → (0 < h → C.product turn turn ≡ C.negative C.one) → t < 2 ^ h → 2 ≤ p → 2 ^ h * (p + 1) ≤ 2 * length roots → OverRing.power C (class_at plain roots (2 ^ h * p + t)) (2 ^ h) ≡ class_at plain roots p
    point-power zero t p square b least within =
        let place : 2 ^ 0 * p + t ≡ p = omega (arith, b) in
        rw place (power-one C (class_at plain roots p))
    point-power (suc h) t p square b least within =
        let n = 2 ^ h in
        let twice : 2 ^ suc h ≡ n + n = power_of_two-suc h in
        let l = 2 ^ suc h * p + t in
        let y = class_at plain roots l in
        let spread : 2 ^ suc h * p ≡ n * p + n * p = ap (λ i. i * p) twice ∙ omega arith in
        let more : 2 ^ suc h * (p + 1) ≡ (n * p + n * p) + (n + n) = ap (λ i. i * (p + 1)) twice ∙ omega arith in
        let half : l / 2 ≡ n * p + t / 2 = omega (arith, spread) in
        let up : p ≤ n * p = let m : 1 * p ≤ n * p = mul-le 1 p n p (pow_pos h) (omega arith) in omega (arith, m) in
        let squared : C.product y y ≡ class_at plain roots (n * p + t / 2) =
        class-square (square (omega arith)) l (omega (arith, half, up, least)) (omega (arith, half, more, within, b, twice)) ∙ ap (class_at plain roots) half in
        ap (OverRing.power C y) twice ∙ power-add C y n n ∙ sym (power-product C y y n) ∙ ap (λ z. OverRing.power C z n) squared
        ∙ point-power h (t / 2) p (λ _. square (omega arith)) (omega (arith, b, twice)) least (omega (arith, more, within))

  -- where x times a point is one, so it is for their powers
  pub power-inverse : (x y z : K) (n : ℕ) → C.product x y ≡ C.one → OverRing.power C y n ≡ z → C.product (OverRing.power C x n) z ≡ C.one
  power-inverse x y z n e is =
      ap (C.product (OverRing.power C x n)) (sym is) ∙ sym (power-product C x y n) ∙ ap (λ a. OverRing.power C a n) e ∙ power-of_one C n
