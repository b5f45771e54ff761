-- Rows of distinct indices, as many as give the data back, and the weights by which their cells give the coefficients.
use Rattle.std.specs.Prelude.{◌≡◌, ◌≢◌, ℕ, ◌+◌, ◌*◌, ◌<◌, ◌≤◌, List, length, map, slice_index_or, All}
use Rattle.std.specs.List.{Contains, flat_map}
use Rattle.math_theory.specs.Sums.{weighted_sum}
use Rattle.math_fields.specs.declared.goldilocks.F.{F}
use Rattle.math_fields.specs.Elements.{residue, same, sum, product}
use Rattle.math_transforms.specs.DomainValues.{matrix_of}
use Rattle.math_transforms.specs.Matrices.{MatrixOf, column_of, row_of}
use Rattle.math_restoring.specs.Restored.{AreDistinct}
use Rattle.math_splitting.specs.declared.shards.layouts.Layout.{Layout}
use Rattle.math_splitting.specs.Shards.{value_at_index}

-- of some rows, all of them if they are as many, these are the indices, of which none stands twice, and the cells one row after the other
pub record AreChosen {R : Type 0} (index : R → ℕ) (cells : R → List F) (rows : List R) (indices : List ℕ) (found : List F) : Type 0 where
  pub picked : List R
  pub few : length picked ≤ length rows
  pub among : All (Contains rows) picked
  pub whole : length picked ≡ length rows → picked ≡ rows
  pub keys : indices ≡ map index picked
  pub distinct : AreDistinct indices
  pub held : found ≡ flat_map cells picked

-- as many indices as give the data back, none of which stands twice, and each is below the number of shards
pub record AreIndicesOf (layout : Layout) (indices : List ℕ) : Type 0 where
  pub many : length indices ≡ layout.min
  pub below : All (λ i. i < layout.total) indices
  pub distinct : AreDistinct indices

-- in the first rows of n cells stands one in the place of the row, and in all rows zero in every other place
pub record AreUnitRows (n rows : ℕ) (cells : List F) : Type 0 where
  pub ones : (i : ℕ) → i < rows → same (slice_index_or cells (i * n + i) (residue 0)) (residue 1)
  pub zeros : (i k : ℕ) → i < n → k < n → i ≢ k → same (slice_index_or cells (i * n + k) (residue 0)) (residue 0)

-- as many rows as there are indices, of as many cells, as a matrix
abbrev pub square : List ℕ → List F → MatrixOf F
square indices cells = matrix_of (length indices) (length indices) cells

-- there are as many rows as indices, of as many cells; the polynomial in column i has at index i the value one, and at every other the value zero
pub record AreWeightsOf (lg : ℕ) (indices : List ℕ) (weights : List F) : Type 0 where
  pub size : length weights ≡ length indices * length indices
  pub one_at : (i : ℕ) → i < length indices → same (value_at_index lg (column_of (residue 0) (square indices weights) i) (slice_index_or indices i 0)) (residue 1)
  pub zero_at : (i t : ℕ) → i < length indices → t < length indices → i ≢ t
      → same (value_at_index lg (column_of (residue 0) (square indices weights) i) (slice_index_or indices t 0)) (residue 0)

-- the sum of the items, each times its weight in row r, of as many rows as there are items
abbrev pub weighed_at : List F → List F → ℕ → F
weighed_at weights items r = weighted_sum (residue 0) sum product items (row_of (matrix_of (length items) (length items) weights) r)

-- the first n cells of a column of rows have these values, and the cells of the other columns are as they were
pub record IsColumnPut (rows width column : ℕ) (value : ℕ → F) (old : List F) (n : ℕ) (new : List F) : Type 0 where
  pub done : (i : ℕ) → i < n → slice_index_or new (i * width + column) (residue 0) ≡ value i
  pub others : (i k : ℕ) → i < rows → k < width → ¬ (k ≡ column) → slice_index_or new (i * width + k) (residue 0) ≡ slice_index_or old (i * width + k) (residue 0)

-- coefficient r of column k: the sum of the cells of the column, each times its weight in row r
abbrev pub coefficient_of : List F → MatrixOf F → ℕ → ℕ → F
coefficient_of weights m r k = weighted_sum (residue 0) sum product (column_of (residue 0) m k) (row_of (matrix_of m.rows m.rows weights) r)

-- the new cells are, row by row, the coefficients of the columns of the old ones
pub record AreCoefficients (weights : List F) (count width : ℕ) (old new : List F) : Type 0 where
  pub size : length new ≡ count * width
  pub each : (r k : ℕ) → r < count → k < width → slice_index_or new (r * width + k) (residue 0) ≡ coefficient_of weights (matrix_of count width old) r k

-- in the first columns the coefficients of the columns of the start are written, and the cells of the further ones are as they were
pub record ArePutBefore (weights : List F) (count width : ℕ) (start : List F) (column : ℕ) (cells : List F) : Type 0 where
  pub done : (r k : ℕ) → r < count → k < column → slice_index_or cells (r * width + k) (residue 0) ≡ coefficient_of weights (matrix_of count width start) r k
  pub others : (r k : ℕ) → r < count → column ≤ k → k < width → slice_index_or cells (r * width + k) (residue 0) ≡ slice_index_or start (r * width + k) (residue 0)

-- the cells of n columns, from column k on, of the first rows stand in a list row after row
abbrev pub AreRead : ℕ → ℕ → ℕ → List F → ℕ → List F → Type 0
AreRead width k n cells rows strip =
    (r i : ℕ) → r < rows → i < n → slice_index_or strip (r * n + i) (residue 0) ≡ slice_index_or cells (r * width + (k + i)) (residue 0)

-- in n columns, from column k on, the coefficients of the columns are written, and the cells of all others are as they were
pub record AreColumnsPut (weights : List F) (count width k n : ℕ) (old new : List F) : Type 0 where
  pub done : (r i : ℕ) → r < count → i < n → slice_index_or new (r * width + (k + i)) (residue 0) ≡ coefficient_of weights (matrix_of count width old) r (k + i)
  pub before : (r i : ℕ) → r < count → i < k → slice_index_or new (r * width + i) (residue 0) ≡ slice_index_or old (r * width + i) (residue 0)
  pub behind : (r i : ℕ) → r < count → k + n ≤ i → i < width → slice_index_or new (r * width + i) (residue 0) ≡ slice_index_or old (r * width + i) (residue 0)
