-- Trees of square roots, a level more at a time, and the places of their entries.
use Rattle.std.proofs.Common.{◌≡◌, ◌≢◌, ◌∙◌, inl, inr, ℕ, zero, suc, ◌+◌, ◌-◌, ◌*◌, ◌/◌, ◌%◌, ◌^◌, ◌<◌, ◌≤◌, List, [], ◌∷◌, length, take, get_or, refl, sym, ap, ap₂, subst, pow_pos, arith}
use Rattle.std.proofs.lemmas.Bool.{cases_lt}
use Rattle.std.proofs.lemmas.List.{get_or-take, length-take-le}
use Rattle.math_theory.specs.BitReversal.{bit_reversed}
use Rattle.math_theory.specs.Laws.{IsEquality, IsGroup, IsProduct, IsRing}
use Rattle.math_theory.specs.OverRing as OverRing
use Rattle.math_theory.specs.Powers.{power, power-zero, power-suc}
use Rattle.math_theory.specs.Rings.{CommutativeRing}
use Rattle.math_theory.proofs.classes.Classes.{Class, class, class_same, same_class, ring_of_classes}
use Rattle.math_theory.proofs.classes.ClassesOfLists.{power-class}
use Rattle.math_theory.proofs.domains.RootOrders.{power_of_two-suc}
use Rattle.math_theory.proofs.rings.Normal.{ring, ◌⊗◌, v0, v1}
use Rattle.math_theory.proofs.rings.PowerLaws.{power-add, power-of_one, power-one, power-product}
use Rattle.math_theory.proofs.transforms.BitOrder.{bit_reversed-suc}
use Rattle.math_base.specs.Members.{RingOf}
use Rattle.math_transforms.specs.RootTrees.{ArePoints, IsTreeOf, IsRootTree, entry}
use Rattle.math_transforms.specs.declared.points_below.Points.{Points}
use Rattle.math_transforms.specs.TreeLevels.{AddsLevel, AreLevelsScaled}
use Rattle.math_transforms.proofs.PowersOfTwo.{power_of_two-double, power_of_two-rises}
use Rattle.math_transforms.proofs.ReversedBits.{reversed-high, reversed-none}

-- zero has no bits
pub reversed-zero : (d : ℕ) → bit_reversed d 0 ≡ 0
reversed-zero zero = sym (reversed-none 0 0 refl)
reversed-zero (suc d) = let e : 0 / 2 ≡ 0 = omega arith in bit_reversed-suc d 0 ∙ rw e (omega (arith, reversed-zero d))

-- a low number has a further bit, which is zero, and the number 2^d above it has one there
pub reversed-low : (d b : ℕ) → b < 2 ^ d → bit_reversed (suc d) b ≡ bit_reversed d b + bit_reversed d b
reversed-low d b l = let e : 0 * 2 ^ d + b ≡ b = omega arith in omega (arith, rw e at (reversed-high d 0 b (omega arith) l))

pub reversed-above : (d b : ℕ) → b < 2 ^ d → bit_reversed (suc d) (2 ^ d + b) ≡ suc (bit_reversed d b + bit_reversed d b)
reversed-above d b l = let e : 1 * 2 ^ d + b ≡ 2 ^ d + b = omega arith in omega (arith, rw e at (reversed-high d 1 b (omega arith) l))

-- the bits of twice a number, and of one more
pub reversed-twice : (d b : ℕ) → bit_reversed (suc d) (2 * b) ≡ bit_reversed d b
reversed-twice d b = grind (arith, bit_reversed-suc)

pub reversed-twice_more : (d b : ℕ) → bit_reversed (suc d) (2 * b + 1) ≡ 2 ^ d + bit_reversed d b
reversed-twice_more d b = grind (arith, bit_reversed-suc)

-- each place but the first is in a level
pub level-of : (lg j : ℕ) → 1 ≤ j → j < 2 ^ lg → (d b : ℕ) × (d < lg) × (b < 2 ^ d) × (2 ^ d + b ≡ j)
level-of zero j h l = absurd (omega (arith, h, l))
level-of (suc lg) j h l = elim (cases_lt j (2 ^ lg)) [
  | inl low ↦ let below = level-of lg j h low in (below.0, below.1, omega (arith, below.2), below.3, below.4)
  | inr high ↦ (lg, j - 2 ^ lg, omega arith, omega (arith, l, power_of_two-suc lg, high), omega (arith, high))
]

-- a place below 2^lg is in one of lg levels
pub level-within : (lg d b : ℕ) → 2 ^ d + b < 2 ^ lg → d < lg
level-within lg d b l = grind (arith, cases_lt, power_of_two-rises)

module _ {A : Type 0} (R : RingOf A) (E : IsEquality R.same) (G : IsGroup R.same R.zero R.sum R.negative) (P : IsProduct R.same R.product) (L : IsRing R.same R.sum R.product R.one)
    (root : ℕ → A) where
  abbrev C : CommutativeRing (Class E)
  C = ring_of_classes E G P L

  -- the tree of start one so far: l levels of lg
  pub record AreLevels (lg l : ℕ) (tree : List A) : Type 0 where
    pub count : length tree ≡ 2 ^ l
    pub first : 2 ≤ lg → R.same (entry R tree 0) (root 2)
    pub entries : (d b : ℕ) → d < l → b < 2 ^ d → R.same (entry R tree (2 ^ d + b)) (power R.one R.product (root (suc d)) (bit_reversed d b))

  pub levels-one : (x y : A) (lg : ℕ) → (2 ≤ lg → R.same x (root 2)) → R.same y R.one → AreLevels lg 1 (x ∷ y ∷ [])
  levels-one x y lg h k = record {
    count = refl;
    first = h;
    entries = λ d b l m.
        let z : d ≡ 0 = omega arith in
        let one : 2 ^ d ≡ 1 = ap (λ n. 2 ^ n) z in
        let q : b ≡ 0 = omega (arith, one, m) in
        rw (z, q, reversed-zero 0, power-zero R.one R.product (root 1)) k;
  }

  -- power i of a square is power 2 i
  pub power-double : (w v : A) (i : ℕ) → R.same (R.product w w) v → class E (power R.one R.product v i) ≡ class E (power R.one R.product w (i + i))
  power-double w v i h =
      sym (power-class E G P L v i) ∙ ap (λ x. OverRing.power C x i) (sym (class_same E _ _ h)) ∙ power-product C (class E w) (class E w) i
      ∙ sym (power-add C (class E w) i i) ∙ power-class E G P L w (i + i)

  module _ (lg l : ℕ) (r : A) (old new : List A) (root_is : R.same r (root (suc (suc l)))) (square : R.same (R.product (root (suc (suc l))) (root (suc (suc l)))) (root (suc l)))
      (h : AreLevels lg (suc l) old) (a : AddsLevel R (2 ^ l) r old new) where
    abbrev w : A
    w = root (suc (suc l))

    -- entry i of the level before, as a class
    before : (i : ℕ) → i < 2 ^ l → class E (entry R old (2 ^ l + i)) ≡ class E (power R.one R.product w (bit_reversed l i + bit_reversed l i))
    before i b = class_same E _ _ (h.entries l i (omega arith) b) ∙ power-double w (root (suc l)) (bit_reversed l i) square

    low : (i : ℕ) → i < 2 ^ l → R.same (entry R new (2 ^ suc l + i)) (power R.one R.product w (bit_reversed (suc l) i))
    low i b =
        rw (reversed-low l i b) (same_class E _ _ (ap (λ n. class E (entry R new (n + i))) (sym h.count) ∙ class_same E _ _ (a.low i b) ∙ before i b))

    high : (i : ℕ) → i < 2 ^ l → R.same (entry R new (2 ^ suc l + (2 ^ l + i))) (power R.one R.product w (bit_reversed (suc l) (2 ^ l + i)))
    high i b =
        rw (reversed-above l i b, power-suc R.one R.product w (bit_reversed l i + bit_reversed l i))
        (same_class E _ _
        (ap (λ n. class E (entry R new (n + (2 ^ l + i)))) (sym h.count) ∙ class_same E _ _ (a.high i b) ∙ ap₂ C.product (before i b) (class_same E _ _ root_is)))

    level : (i : ℕ) → i < 2 ^ suc l → R.same (entry R new (2 ^ suc l + i)) (power R.one R.product w (bit_reversed (suc l) i))
    level i b = elim (cases_lt i (2 ^ l)) [
      | inl below ↦ low i below
      | inr above ↦
          let q : 2 ^ l + (i - 2 ^ l) ≡ i = omega (arith, above) in
          rw q at (high (i - 2 ^ l) (omega (arith, b, above, power_of_two-suc l)))
    ]

    levels-more : AreLevels lg (suc (suc l)) new
    levels-more = record {
      count = a.count ∙ omega (arith, h.count, power_of_two-suc l, power_of_two-suc (suc l));
      first = λ k. let some : 0 < length old = omega (arith, h.count, pow_pos (suc l)) in rw (a.kept 0 some) (h.first k);
      entries = λ m i within below. elim (cases_lt m (suc l)) [
        | inl older ↦
            let up : 2 ^ suc m ≤ 2 ^ suc l = power_of_two-rises (suc m) (suc l) (omega (arith, older)) in
            rw (a.kept (2 ^ m + i) (omega (arith, h.count, up, power_of_two-suc m, below))) (h.entries m i older below)
        | inr newest ↦
            let e : suc l ≡ m = omega (arith, within, newest) in
            subst (λ m. R.same (entry R new (2 ^ m + i)) (power R.one R.product (root (suc m)) (bit_reversed m i))) e (level i (subst (λ m. i < 2 ^ m) (sym e) below))
      ];
    }

  -- a level more, by the root whose square is the root of the level before
  pub levels-next : (lg l half : ℕ) (r : A) (old new : List A) → 0 < l → half ≡ 2 ^ (l - 1) → R.same r (root (l + 1)) → R.same (R.product (root (l + 1)) (root (l + 1))) (root l)
      → AreLevels lg l old → AddsLevel R half r old new → AreLevels lg (l + 1) new
  levels-next lg zero half r old new h half_is root_is square t a = absurd (omega (arith, h))
  levels-next lg (suc l) half r old new h half_is root_is square t a =
      let e : suc l + 1 ≡ suc (suc l) = omega arith in
      let f : half ≡ 2 ^ l = half_is ∙ ap (λ n. 2 ^ n) (let q : suc l - 1 ≡ l = omega arith in q) in
      rw e (levels-more lg l r old new (rw e at root_is) (rw e at square) t (rw f at a))

  -- a power of the start times a power of a root, as a class
  pub placed-class : (start w : A) (n m : ℕ) → class E (R.product (power R.one R.product start n) (power R.one R.product w m))
      ≡ C.product (OverRing.power C (class E start) n) (OverRing.power C (class E w) m)
  placed-class start w n m = sym (ap₂ C.product (power-class E G P L start n) (power-class E G P L w m))

  -- all levels are the tree of start one
  pub levels-tree : (lg : ℕ) (tree : List A) → AreLevels lg lg tree → IsTreeOf R root R.one lg tree
  levels-tree lg tree h = record {
    count = h.count;
    first = h.first;
    entries = λ d b l m.
        same_class E _ _
        (class_same E _ _ (h.entries d b l m)
        ∙ sym (placed-class R.one (root (suc d)) (2 ^ (lg - d - 1)) (bit_reversed d b)
        ∙ ap (λ x. C.product x (OverRing.power C (class E (root (suc d))) (bit_reversed d b))) (power-of_one C (2 ^ (lg - d - 1)))
        ∙ C.product_one (OverRing.power C (class E (root (suc d))) (bit_reversed d b)) ∙ power-class E G P L (root (suc d)) (bit_reversed d b)));
  }

  -- the entries of the tree of start one
  pub ones-entry : (lg d b : ℕ) (tree : List A) → IsTreeOf R root R.one lg tree → d < lg → b < 2 ^ d
      → class E (entry R tree (2 ^ d + b)) ≡ OverRing.power C (class E (root (suc d))) (bit_reversed d b)
  ones-entry lg d b tree T l m =
      class_same E _ _ (T.entries d b l m) ∙ placed-class R.one (root (suc d)) (2 ^ (lg - d - 1)) (bit_reversed d b)
      ∙ ap (λ x. C.product x (OverRing.power C (class E (root (suc d))) (bit_reversed d b))) (power-of_one C (2 ^ (lg - d - 1)))
      ∙ C.product_one (OverRing.power C (class E (root (suc d))) (bit_reversed d b))

  -- they are powers of the roots
  pub ones-power : (lg d b : ℕ) (tree : List A) → IsTreeOf R root R.one lg tree → d < lg → b < 2 ^ d → R.same (entry R tree (2 ^ d + b)) (power R.one R.product (root (suc d)) (bit_reversed d b))
  ones-power lg d b tree T l m = same_class E _ _ (ones-entry lg d b tree T l m ∙ power-class E G P L (root (suc d)) (bit_reversed d b))

  -- scaled level by level it is that of the other start
  pub scaled-tree : (factor start : A) (lg : ℕ) (old new : List A) → R.same factor start → IsTreeOf R root R.one lg old → AreLevelsScaled R factor lg old new → length new ≡ length old
      → IsTreeOf R root start lg new
  scaled-tree factor start lg old new h T S kept = record {
    count = kept ∙ T.count;
    first = λ h. rw S.first (T.first h);
    entries = λ d b l m.
        let n = 2 ^ (lg - d - 1) in
        let s = OverRing.power C (class E start) n in
        let y = OverRing.power C (class E (root (suc d))) (bit_reversed d b) in
        let power_is : class E (power R.one R.product factor n) ≡ s = sym (power-class E G P L factor n) ∙ ap (λ x. OverRing.power C x n) (class_same E _ _ h) in
        same_class E _ _
        (class_same E _ _ (S.entries d b l m) ∙ ap₂ C.product (ones-entry lg d b old T l m) power_is
        ∙ C.product_comm y s ∙ sym (placed-class start (root (suc d)) n (bit_reversed d b)));
  }

  -- the tree of start one begins with that of fewer levels
  pub tree-begins : (lg l : ℕ) (tree below : List A) → l ≤ lg → length below ≡ 2 ^ l → ((p : ℕ) → p < 2 ^ l → entry R below p ≡ entry R tree p) → IsTreeOf R root R.one lg tree
      → IsTreeOf R root R.one l below
  tree-begins lg l tree below within count kept T = levels-tree l below record {
    count = count;
    first = λ h. rw (kept 0 (pow_pos l)) (T.first (omega (arith, h, within)));
    entries = λ d b m n.
        let up : 2 ^ suc d ≤ 2 ^ l = power_of_two-rises (suc d) l (omega (arith, m)) in
        rw (kept (2 ^ d + b) (omega (arith, n, up, power_of_two-suc d)))
        (ones-power lg d b tree T (omega (arith, m, within)) n);
  }

  -- and its first half is the tree of one level less
  pub tree-below : (lg half : ℕ) (tree : List A) → lg ≢ 0 → half ≡ 2 ^ (lg - 1) → IsTreeOf R root R.one lg tree → (below : List A) → below ≡ take half tree → IsTreeOf R root R.one (lg - 1) below
  tree-below lg half tree some half_is T below e =
      let double : 2 ^ lg ≡ 2 ^ (lg - 1) + 2 ^ (lg - 1) = power_of_two-double lg (omega (arith, some)) in
      tree-begins lg (lg - 1) tree below (omega arith) (ap length e ∙ length-take-le half tree (omega (arith, half_is, T.count, double)) ∙ half_is)
      (λ p l. ap (λ xs. get_or xs p R.zero) e ∙ get_or-take half tree p R.zero (omega (arith, l, half_is))) T

  module _ (start : A) (lg : ℕ) (tree : List A) (square : (l : ℕ) → l < lg → R.same (R.product (root (suc l)) (root (suc l))) (root l)) (T : IsTreeOf R root start lg tree) where
    -- an entry, as a class
    at : (d b : ℕ) → d < lg → b < 2 ^ d
        → class E (entry R tree (2 ^ d + b)) ≡ C.product (OverRing.power C (class E start) (2 ^ (lg - d - 1))) (OverRing.power C (class E (root (suc d))) (bit_reversed d b))
    at d b l m = class_same E _ _ (T.entries d b l m) ∙ placed-class start (root (suc d)) (2 ^ (lg - d - 1)) (bit_reversed d b)

    -- power 2^d of the root of order 2^(d + 2) is that of order four
    turn : (d : ℕ) → suc d < lg → OverRing.power C (class E (root (suc (suc d)))) (2 ^ d) ≡ class E (root 2)
    turn zero h = power-one C (class E (root 2))
    turn (suc d) h =
        let v = class E (root (suc (suc (suc d)))) in
        ap (OverRing.power C v) (power_of_two-suc d) ∙ power-add C v (2 ^ d) (2 ^ d) ∙ sym (power-product C v v (2 ^ d))
        ∙ ap (λ x. OverRing.power C x (2 ^ d)) (class_same E _ _ (square (suc (suc d)) h)) ∙ turn d (omega (arith, h))

    module _ (d b : ℕ) (l : suc d < lg) (m : b < 2 ^ d) where
      abbrev n : ℕ
      n = lg - suc d - 1

      abbrev v : Class E
      v = class E (root (suc (suc d)))

      abbrev s : Class E
      s = OverRing.power C (class E start) (2 ^ n)

      abbrev y : Class E
      y = OverRing.power C v (bit_reversed d b)

      even-at : class E (entry R tree (2 ^ suc d + 2 * b)) ≡ C.product s y
      even-at = at (suc d) (2 * b) l (omega (arith, m, power_of_two-suc d)) ∙ ap (λ i. C.product s (OverRing.power C v i)) (reversed-twice d b)

      odd-at : class E (entry R tree (2 ^ suc d + (2 * b + 1))) ≡ C.product s (OverRing.power C v (2 ^ d + bit_reversed d b))
      odd-at = at (suc d) (2 * b + 1) l (omega (arith, m, power_of_two-suc d)) ∙ ap (λ i. C.product s (OverRing.power C v i)) (reversed-twice_more d b)

      even-square : C.product (C.product s y) (C.product s y) ≡ class E (entry R tree (2 ^ d + b))
      even-square =
          let next : suc n ≡ lg - d - 1 = omega (arith, l) in
          ring C (s ∷ y ∷ []) ((v0 ⊗ v1) ⊗ (v0 ⊗ v1)) ((v0 ⊗ v0) ⊗ (v1 ⊗ v1)) refl
          ∙ ap₂ C.product
          (sym (power-add C (class E start) (2 ^ n) (2 ^ n)) ∙ ap (OverRing.power C (class E start)) (sym (power_of_two-suc n) ∙ ap (λ i. 2 ^ i) next))
          (sym (power-product C v v (bit_reversed d b)) ∙ ap (λ x. OverRing.power C x (bit_reversed d b)) (class_same E _ _ (square (suc d) l)))
          ∙ sym (at d b (omega (arith, l)) m)

      pub even-root : R.same (R.product (entry R tree (2 ^ suc d + 2 * b)) (entry R tree (2 ^ suc d + 2 * b))) (entry R tree (2 ^ d + b))
      even-root = same_class E _ _ (ap₂ C.product even-at even-at ∙ even-square)

      pub odd-root : R.same (entry R tree (2 ^ suc d + (2 * b + 1))) (R.product (entry R tree (2 ^ suc d + 2 * b)) (root 2))
      odd-root =
          let z = class E (root 2) in
          same_class E _ _
          (odd-at ∙ ap (C.product s) (power-add C v (2 ^ d) (bit_reversed d b) ∙ ap (λ x. C.product x y) (turn d l) ∙ C.product_comm z y)
          ∙ sym (C.product_assoc s y z) ∙ ap (λ x. C.product x z) (sym even-at))

    -- it is a tree of square roots
    pub root-tree : IsRootTree R (root 2) tree
    root-tree = record {
      first = λ h.
          let two : 2 ≤ lg = elim (cases_lt lg 2) [
            | inl l ↦ absurd (omega (arith, h, T.count, power_of_two-rises lg 1 (omega (arith, l))))
            | inr l ↦ l
          ] in
          T.first two;
      even = λ j some l.
          let here = level-of lg j some (omega (arith, l, T.count)) in
          let d = here.0 in
          let b = here.1 in
          let is : 2 ^ d + b ≡ j = here.4 in
          let place : 2 ^ suc d + 2 * b ≡ 2 * j = omega (arith, is, power_of_two-suc d) in
          rw (is, place) at (even-root d b (level-within lg (suc d) (2 * b) (omega (arith, place, l, T.count))) here.3);
      odd = λ j some l.
          let here = level-of lg j some (omega (arith, l, T.count)) in
          let d = here.0 in
          let b = here.1 in
          let is : 2 ^ d + b ≡ j = here.4 in
          let place : 2 ^ suc d + 2 * b ≡ 2 * j = omega (arith, is, power_of_two-suc d) in
          let next : 2 ^ suc d + (2 * b + 1) ≡ 2 * j + 1 = omega (arith, is, power_of_two-suc d) in
          rw (next, place) at (odd-root d b (level-within lg (suc d) (2 * b + 1) (omega (arith, next, l, T.count))) here.3);
    }

-- all points of a tree
module _ {A : Type 0} (R : RingOf A) (E : IsEquality R.same) (G : IsGroup R.same R.zero R.sum R.negative) (P : IsProduct R.same R.product) (L : IsRing R.same R.sum R.product R.one) where
  pub all-points : (root : ℕ → A) (start : A) (greatest : ℕ) (points : Points A) → points.place ≡ 1 → points.lg ≤ greatest → points.lg < 64
      → ((l : ℕ) → l < points.lg → R.same (R.product (root (suc l)) (root (suc l))) (root l)) → IsTreeOf R root start points.lg points.roots.now → ArePoints R greatest (root 2) points
  all-points root start greatest points top domain small square T = record {
    domain = domain;
    small = small;
    tree = root-tree R E G P L root start points.lg points.roots.now square T;
    some = omega (arith, top);
    within = rw top (omega (arith, T.count));
  }
