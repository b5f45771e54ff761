-- Trees of square roots, the points below their places, and columns of values at these points.
use Rattle.std.specs.Prelude.{◌≡◌, ℕ, suc, ◌+◌, ◌-◌, ◌*◌, ◌/◌, ◌%◌, ◌<◌, ◌≤◌, ◌^◌, ◌==◌, if◌then◌else◌, List, length, slice_index_or}
use Rattle.math_theory.specs.BitReversal.{bit_reversed}
use Rattle.math_theory.specs.Powers.{power}
use Rattle.math_base.specs.Members.{RingOf}
use Rattle.math_base.specs.Polynomials.{value_in_ring}
use Rattle.math_transforms.specs.declared.points_below.Points.{Points}
use Rattle.math_transforms.specs.DomainValues.{matrix_of}
use Rattle.math_transforms.specs.Matrices.{column_of}

module _ {A : Type 0} (R : RingOf A) where
  -- the entry at place j
  abbrev pub entry : List A → ℕ → A
  entry roots j = slice_index_or roots j R.zero

  -- entry j / 2, or minus it where j is odd
  abbrev pub class_at : List A → ℕ → A
  class_at roots j = if j % 2 == 0 then entry roots (j / 2) else R.negative (entry roots (j / 2))

  -- a tree of square roots: from place 1 on, entry 2 j is a square root of entry j, and entry 2 j + 1 is entry 2 j times the turn, which is
  -- entry 0 where there are four entries or more
  pub record IsRootTree (turn : A) (roots : List A) : Type 0 where
    pub first : 4 ≤ length roots → R.same (entry roots 0) turn
    pub even : (j : ℕ) → 1 ≤ j → 2 * j < length roots → R.same (R.product (entry roots (2 * j)) (entry roots (2 * j))) (entry roots j)
    pub odd : (j : ℕ) → 1 ≤ j → 2 * j + 1 < length roots → R.same (entry roots (2 * j + 1)) (R.product (entry roots (2 * j)) turn)

  -- lg is at most the greatest one and below 64, and the tree, which has this turn, reaches down to the 2^lg points below the place
  pub record ArePoints (greatest : ℕ) (turn : A) (points : Points A) : Type 0 where
    pub domain : points.lg ≤ greatest
    pub small : points.lg < 64
    pub tree : IsRootTree turn points.roots.now
    pub some : 1 ≤ points.place
    pub within : 2 ^ points.lg * (points.place + 1) ≤ 2 * length points.roots.now

  -- The tree of the points that are the start times the powers of a root, in bit-reversed order. There are 2^lg entries: entry 0 is the
  -- root of order four, where lg is two or more, and the entry at place 2^d + b is power 2^(lg - d - 1) of the start times the power of
  -- root d + 1 whose exponent has the d bits of b in the opposite order.
  pub record IsTreeOf (root : ℕ → A) (start : A) (lg : ℕ) (roots : List A) : Type 0 where
    pub count : length roots ≡ 2 ^ lg
    pub first : 2 ≤ lg → R.same (entry roots 0) (root 2)
    pub entries : (d b : ℕ) → d < lg → b < 2 ^ d
        → R.same (entry roots (2 ^ d + b)) (R.product (power R.one R.product start (2 ^ (lg - d - 1))) (power R.one R.product (root (suc d)) (bit_reversed d b)))

  -- the value at x of the polynomial whose coefficients are column k of 2^lg rows of c cells
  abbrev pub column_value : ℕ → ℕ → List A → ℕ → A → A
  column_value lg c cells k x = value_in_ring R (column_of R.zero (matrix_of (2 ^ lg) c cells) k) x

  -- power n of two
  abbrev pub twos : ℕ → A
  twos n = power R.one R.product (R.sum R.one R.one) n

  -- cell k of row t, of 2^lg new rows of c cells, is the value of column k of the old ones at point t below the place
  abbrev pub AreValuesBelow : List A → ℕ → ℕ → ℕ → List A → List A → Type 0
  AreValuesBelow roots lg place c old new =
      (t k : ℕ) → t < 2 ^ lg → k < c → R.same (entry new (t * c + k)) (column_value lg c old k (class_at roots (2 ^ lg * place + t)))

  -- cell k of row t, of 2^lg new rows of c cells, is the value at point t below the place of column k of the old ones, of which only the
  -- first 2^part rows hold coefficients
  abbrev pub AreValuesOfFewBelow : List A → ℕ → ℕ → ℕ → ℕ → List A → List A → Type 0
  AreValuesOfFewBelow roots lg part place c old new =
      (t k : ℕ) → t < 2 ^ lg → k < c → R.same (entry new (t * c + k)) (column_value part c old k (class_at roots (2 ^ lg * place + t)))

  -- column k of 2^lg new rows of c cells has, where x times point t below the place is one, 2^lg times cell k of old row t as its value at x
  abbrev pub AreMultiplesBelow : List A → ℕ → ℕ → ℕ → List A → List A → Type 0
  AreMultiplesBelow inverses lg place c old new =
      (t k : ℕ) (x : A) → t < 2 ^ lg → k < c → R.same (R.product x (class_at inverses (2 ^ lg * place + t))) R.one
      → R.same (column_value lg c new k x) (R.product (entry old (t * c + k)) (twos lg))

  -- the new cells are the values of the columns of the old ones at the given points
  abbrev pub AreValuesAtPoints : Points A → ℕ → List A → List A → Type 0
  AreValuesAtPoints points c old new = AreValuesBelow points.roots.now points.lg points.place c old new

  -- the new cells are the values, at the given points, of the columns of the old ones, of which only the first 2^part rows hold
  -- coefficients
  abbrev pub AreValuesOfFewAtPoints : Points A → ℕ → ℕ → List A → List A → Type 0
  AreValuesOfFewAtPoints points part c old new = AreValuesOfFewBelow points.roots.now points.lg part points.place c old new

  -- the new columns have 2^lg times the old cells as their values at the inverses of the given points
  abbrev pub AreMultiplesAtPoints : Points A → ℕ → List A → List A → Type 0
  AreMultiplesAtPoints inverses c old new = AreMultiplesBelow inverses.roots.now inverses.lg inverses.place c old new
