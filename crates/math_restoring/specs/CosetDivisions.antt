-- Columns of values of which some are there, turned into coefficients by division at some points of a coset.
use Rattle.std.specs.Prelude.{◌≡◌, ℕ, ◌+◌, ◌-◌, ◌*◌, ◌<◌, ◌≤◌, ◌^◌, List, length}
use Rattle.math_theory.specs.BitReversal.{bit_reversed}
use Rattle.math_theory.specs.Powers.{power}
use Rattle.math_theory.specs.Recovery.{Fits, count_true}
use Rattle.math_fields.specs.declared.goldilocks.F.{F}
use Rattle.math_fields.specs.Elements.{inverse, negative, product, residue, root_of, same, shift_of, sum, goldilocks}
use Rattle.math_base.specs.Polynomials.{value_in_ring}
use Rattle.math_transforms.specs.DomainValues.{matrix_of}
use Rattle.math_transforms.specs.Matrices.{column_of}
use Rattle.math_transforms.specs.MissingPoints.{VanishesAtFalse}
use Rattle.math_transforms.specs.RootTrees.{IsTreeOf, column_value, twos}
use Rattle.math_restoring.specs.declared.dividing.CosetDivision.{CosetDivision}
use Rattle.math_restoring.specs.Restored.{item}

-- power n of x
abbrev pub raised : F → ℕ → F
raised x n = power (residue 1) product x n

-- at each point whose power 2^part is the step, the columns of the first 2^part new rows of c cells have the values of the columns of the
-- 2^lg old rows
abbrev pub AreFolded : ℕ → ℕ → ℕ → F → List F → List F → Type 0
AreFolded lg part c step old new =
    (x : F) (k : ℕ) → k < c → same (raised x (2 ^ part)) step → same (column_value goldilocks part c new k x) (column_value goldilocks lg c old k x)

-- point t of the domain of 2^lg, in the order of the tree
abbrev pub domain_point : ℕ → ℕ → F
domain_point lg t = raised (root_of lg) (bit_reversed lg t)

-- the first 2^(lg - 1) rows are the sums of two polynomials in each column: one has the old rows of the low half, times 2^(lg - 1), as its
-- values at the points of the low half of the domain, in the order of the tree, and the other has the old rows of the high half, times
-- 2^(lg - 1), as its values at the points of the high half
abbrev pub AreSumsOf : ℕ → ℕ → List F → List F → Type 0
AreSumsOf lg c old new =
    (k : ℕ) → k < c
    → (low high : List F) × (length low ≡ 2 ^ (lg - 1)) × (length high ≡ 2 ^ (lg - 1))
    × ((x : F) → same (column_value goldilocks (lg - 1) c new k x) (sum (value_in_ring goldilocks low x) (value_in_ring goldilocks high x)))
    × ((t : ℕ) → t < 2 ^ (lg - 1) → same (value_in_ring goldilocks low (domain_point lg t)) (product (item old (t * c + k)) (twos goldilocks (lg - 1))))
    × ((t : ℕ) → t < 2 ^ (lg - 1)
    → same (value_in_ring goldilocks high (domain_point lg (2 ^ (lg - 1) + t))) (product (item old ((2 ^ (lg - 1) + t) * c + k)) (twos goldilocks (lg - 1))))

-- point t of the coset of 2^part points, in the order of the tree
abbrev pub coset_point : ℕ → ℕ → F
coset_point part t = product shift_of (raised (root_of part) (bit_reversed part t))

-- power 2^(lg - 1) of what has the step as its power 2^part
abbrev pub power_below : ℕ → ℕ → F → F
power_below lg part step = raised step (2 ^ (lg - 1 - part))

-- each item, times 2^lg, is the value of v at its point of the domain, and where part is less than lg, times 1 + c in the low half and 1 - c in the high half, c
-- being power 2^(lg - 1) of the shift
pub record AreFactors (lg part : ℕ) (step : F) (v items : List F) : Type 0 where
  pub whole : (t : ℕ) → part ≡ lg → t < 2 ^ lg → same (product (item items t) (twos goldilocks lg)) (value_in_ring goldilocks v (domain_point lg t))
  pub low : (t : ℕ) → part < lg → t < 2 ^ (lg - 1)
      → same (product (item items t) (twos goldilocks lg)) (product (value_in_ring goldilocks v (domain_point lg t)) (sum (residue 1) (power_below lg part step)))
  pub high : (t : ℕ) → part < lg → t < 2 ^ (lg - 1)
      → same (product (item items (2 ^ (lg - 1) + t)) (twos goldilocks lg))
      (product (value_in_ring goldilocks v (domain_point lg (2 ^ (lg - 1) + t))) (sum (residue 1) (negative (power_below lg part step))))

-- each item, times the value of v at its point of the coset and times 2^part, is one
abbrev pub AreDividedInverses : ℕ → List F → List F → Type 0
AreDividedInverses part v items =
    (t : ℕ) → t < 2 ^ part → same (product (product (item items t) (value_in_ring goldilocks v (coset_point part t))) (twos goldilocks part)) (residue 1)

-- some points of a domain of 2^lg are filled, and no more than 2^part; there are a factor for each point, the trees of the inverses of the
-- domain, of the coset and of its inverses, an inverse for each point of the coset, and power 2^part of the shift
pub record HasTables (d : CosetDivision) : Type 0 where
  pub domain : d.lg ≤ 32
  pub least : 1 ≤ d.part
  pub part : d.part ≤ d.lg
  pub points : length d.points ≡ 2 ^ d.lg
  pub some : 0 < count_true d.points
  pub few : count_true d.points ≤ 2 ^ d.part
  pub step : same d.step (raised shift_of (2 ^ d.part))
  pub factor_count : length d.factors.items ≡ 2 ^ d.lg
  pub domain_inverses : IsTreeOf goldilocks (λ l. inverse (root_of l)) (residue 1) d.lg d.domain.items
  pub coset_tree : IsTreeOf goldilocks root_of shift_of d.part d.coset.items
  pub coset_inverses : IsTreeOf goldilocks (λ l. inverse (root_of l)) (inverse shift_of) d.part d.coset_inverses.items
  pub inverse_count : length d.inverses.items ≡ 2 ^ d.part

-- there are tables; v vanishes at the points that are not filled, and at no other power of the root; the factors, and the divided inverses
-- on the coset, are made of the values of v
pub record IsCosetDivision (d : CosetDivision) : Type 0 where
  pub tables : HasTables d
  pub v : List F
  pub size : length v ≡ 2 ^ d.lg
  pub vanishes : VanishesAtFalse goldilocks (root_of d.lg) d.points (value_in_ring goldilocks v)
  pub factors : AreFactors d.lg d.part d.step v d.factors.items
  pub inverses : AreDividedInverses d.part v d.inverses.items

-- whatever cells of the domain, in natural order, times the factors are column k of the old rows, which are in the order of the tree:
-- column k of the first 2^part new rows fits the filled ones of these cells
abbrev pub DoColumnsFit : CosetDivision → ℕ → List F → List F → Type 0
DoColumnsFit d c old new =
    (k : ℕ) (cells : List F) → k < c → length cells ≡ 2 ^ d.lg
    → ((i : ℕ) → i < 2 ^ d.lg → same (item old (bit_reversed d.lg i * c + k)) (product (item cells i) (item d.factors.items (bit_reversed d.lg i))))
    → Fits same (residue 0) sum product (residue 1) (root_of d.lg) cells d.points (column_of (residue 0) (matrix_of (2 ^ d.part) c new) k)
