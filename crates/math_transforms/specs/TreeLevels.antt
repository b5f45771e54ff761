-- The levels of a tree of square roots.
use Rattle.std.specs.Prelude.{◌≡◌, ℕ, ◌+◌, ◌-◌, ◌<◌, ◌^◌, List, length}
use Rattle.math_theory.specs.Powers.{power}
use Rattle.math_base.specs.Members.{RingOf}
use Rattle.math_transforms.specs.RootTrees.{entry}

module _ {A : Type 0} (R : RingOf A) where
  -- after the old entries there are n more: entry i of these is same as what f makes of old entry from + i
  pub record AddsMade (f : A → A) (from n : ℕ) (old new : List A) : Type 0 where
    pub count : length new ≡ length old + n
    pub kept : (p : ℕ) → p < length old → entry R new p ≡ entry R old p
    pub added : (i : ℕ) → i < n → R.same (entry R new (length old + i)) (f (entry R old (from + i)))

  -- after 2 n entries there are 2 n more: entry i of these is same as old entry n + i, and entry n + i as its product with the root
  pub record AddsLevel (n : ℕ) (root : A) (old new : List A) : Type 0 where
    pub count : length new ≡ length old + (n + n)
    pub kept : (p : ℕ) → p < length old → entry R new p ≡ entry R old p
    pub low : (i : ℕ) → i < n → R.same (entry R new (length old + i)) (entry R old (n + i))
    pub high : (i : ℕ) → i < n → R.same (entry R new (length old + (n + i))) (R.product (entry R old (n + i)) root)

  -- entry 0 is as before, and each entry of level d is same as the old one times power 2^(lg - d - 1) of the start
  pub record AreLevelsScaled (start : A) (lg : ℕ) (old new : List A) : Type 0 where
    pub first : entry R new 0 ≡ entry R old 0
    pub entries : (d b : ℕ) → d < lg → b < 2 ^ d
        → R.same (entry R new (2 ^ d + b)) (R.product (entry R old (2 ^ d + b)) (power R.one R.product start (2 ^ (lg - d - 1))))
