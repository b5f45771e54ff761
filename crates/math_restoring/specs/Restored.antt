-- Rows of cells of distinct indices, and the coefficients of the polynomials that have the cells of the columns as their values.
use Rattle.std.specs.Prelude.{◌≡◌, ◌≢◌, ℕ, ◌+◌, ◌*◌, ◌<◌, ◌≤◌, List, Bool, true, false, length, slice_index_or}
use Rattle.math_theory.specs.BitReversal.{bit_reversed}
use Rattle.math_theory.specs.Powers.{power}
use Rattle.math_fields.specs.declared.goldilocks.F.{F}
use Rattle.math_fields.specs.Elements.{product, residue, root_of, same, goldilocks}
use Rattle.math_base.specs.Polynomials.{value_in_ring}
use Rattle.math_transforms.specs.DomainValues.{matrix_of}
use Rattle.math_transforms.specs.Matrices.{column_of}

-- the item in this place
abbrev pub item : List F → ℕ → F
item xs k = slice_index_or xs k (residue 0)

-- no two of the indices are equal
abbrev pub AreDistinct : List ℕ → Type 0
AreDistinct indices = (i j : ℕ) → i < j → j < length indices → slice_index_or indices i 0 ≢ slice_index_or indices j 0

-- the point of each index is filled
abbrev pub AreFilled : List ℕ → List Bool → Type 0
AreFilled indices points = (t : ℕ) → t < length indices → slice_index_or points (slice_index_or indices t 0) false ≡ true

-- each place is the place of its index in the order of the tree
pub record ArePlacesOf (lg : ℕ) (indices places : List ℕ) : Type 0 where
  pub count : length places ≡ length indices
  pub each : (t : ℕ) → t < length indices → slice_index_or places t 0 ≡ bit_reversed lg (slice_index_or indices t 0)

-- of n rows of c cells in the room, the one at place number t has the cells of row t, times the factor of the place, and the other ones have zeros
pub record ArePlaced (n : ℕ) (places : List ℕ) (factors : List F) (c : ℕ) (cell : ℕ → ℕ → F) (room : List F) : Type 0 where
  pub placed : (t k : ℕ) → t < length places → k < c
      → same (item room (slice_index_or places t 0 * c + k)) (product (cell t k) (item factors (slice_index_or places t 0)))
  pub others : (p k : ℕ) → p < n → k < c → ((t : ℕ) → t < length places → slice_index_or places t 0 ≢ p) → same (item room (p * c + k)) (residue 0)

-- p has no coefficient other than zero from the number of indices on, and at the powers of the root of order 2^lg that are the indices it
-- has the values
pub record FitsAt (lg : ℕ) (indices : List ℕ) (value : ℕ → F) (p : List F) : Type 0 where
  pub few : (i : ℕ) → length indices ≤ i → same (item p i) (residue 0)
  pub values : (t : ℕ) → t < length indices
      → same (value_in_ring goldilocks p (power (residue 1) product (root_of lg) (slice_index_or indices t 0))) (value t)

-- c columns of rows of cells, from column `from` on, are the columns of the first rows of the room, and the columns before them and after
-- them are as they were
pub record AreTaken (width from c rows : ℕ) (room old new : List F) : Type 0 where
  pub written : (r k : ℕ) → r < rows → k < c → slice_index_or new (r * width + (from + k)) (residue 0) ≡ slice_index_or room (r * c + k) (residue 0)
  pub before : (r k : ℕ) → r < rows → k < from → slice_index_or new (r * width + k) (residue 0) ≡ slice_index_or old (r * width + k) (residue 0)
  pub after : (r k : ℕ) → r < rows → from + c ≤ k → k < width → slice_index_or new (r * width + k) (residue 0) ≡ slice_index_or old (r * width + k) (residue 0)

-- the columns of the new cells, of which there is a row for each index, are coefficients of polynomials whose values at the indices are the old cells
abbrev pub HaveCellsAsValues : ℕ → List ℕ → ℕ → List F → List F → Type 0
HaveCellsAsValues lg indices width old new =
    (t k : ℕ) → t < length indices → k < width
    → same (value_in_ring goldilocks (column_of (residue 0) (matrix_of (length indices) width new) k) (power (residue 1) product (root_of lg) (slice_index_or indices t 0)))
    (slice_index_or old (t * width + k) (residue 0))
