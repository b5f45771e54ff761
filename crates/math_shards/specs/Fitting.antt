-- Shards as rows of one width, each with an index, and the data that rows fit.
use Rattle.std.specs.Prelude.{◌≡◌, ℕ, ◌*◌, ◌<◌, ◌≤◌, ◌^◌, ◌==◌, List, length, map, slice_index_or, count_by, All}
use Rattle.std.specs.Int.{IsNextPowerOfTwo}
use Rattle.std.specs.List.{list_any, range_with_len}
use Rattle.math_fields.specs.declared.goldilocks.F.{F}
use Rattle.math_fields.specs.Elements.{residue, same}
use Rattle.math_transforms.specs.DomainValues.{matrix_of}
use Rattle.math_transforms.specs.Matrices.{IsOfSize, MatrixOf, column_of}
use Rattle.math_splitting.specs.declared.shards.layouts.Layout.{Layout}
use Rattle.math_splitting.specs.Shards.{elements_for, rows_for, value_at_index, width_for, with_zeros}

-- how many of the numbers below n are among the indices
abbrev pub distinct_among : ℕ → List ℕ → ℕ
distinct_among n indices = count_by (λ i. list_any (λ j. j == i) indices) (range_with_len 0 n)

-- the cells are the values, at power `index` of the root of order 2^lg, of the polynomials whose coefficients are the columns of m
abbrev pub HasValuesOf : ℕ → MatrixOf F → ℕ → List F → Type 0
HasValuesOf lg m index cells = (k : ℕ) → k < m.cols → same (slice_index_or cells k (residue 0)) (value_at_index lg (column_of (residue 0) m k) index)

-- the elements are those that the number of the words and the words pack to, and zeros that fill up the last of `min` rows
pub record AreDataOf (words : List ℕ) (min : ℕ) (elements : List F) : Type 0 where
  pub each_word : All (λ word. word < 2 ^ 64) words
  pub few : length words < 2 ^ 64
  pub packed : elements ≡ with_zeros (min * width_for min words) (elements_for words)

-- rows, each with an index and cells, fit the words: each has the cells of the shard of its index, and at least `min` have distinct indices
pub record DoRowsFit {R : Type 0} (index : R → ℕ) (cells : R → List F) (words : List ℕ) (min total : ℕ) (rows : List R) : Type 0 where
  pub some : 1 ≤ min
  pub within : min ≤ total
  pub short : total < 2 ^ 32
  pub each_word : All (λ word. word < 2 ^ 64) words
  pub few : length words < 2 ^ 64
  pub enough : min ≤ distinct_among total (map index rows)
  pub below : All (λ row. index row < total) rows
  pub count : All (λ row. length (cells row) ≡ width_for min words) rows
  pub values : (lg : ℕ) → IsNextPowerOfTwo total (2 ^ lg) → All (λ row. HasValuesOf lg (rows_for min words) (index row) (cells row)) rows

-- rows, each with an index and cells, are such as shards of the layout: the indices are below `total`, and each row has the width
pub record AreRowsOf {R : Type 0} (index : R → ℕ) (cells : R → List F) (layout : Layout) (rows : List R) : Type 0 where
  pub below : All (λ row. index row < layout.total) rows
  pub count : All (λ row. length (cells row) ≡ layout.width) rows

-- rows of the layout, of which `min` have distinct indices, give these coefficients, `min` for each column: where there are no further
-- rows, the cells of each are their values; and where the cells of all rows are the values of polynomials of no more coefficients, these
-- are the coefficients of those polynomials
pub record AreCoefficientsOf {R : Type 0} (index : R → ℕ) (cells : R → List F) (layout : Layout) (rows : List R) (elements : List F) : Type 0 where
  pub size : length elements ≡ layout.min * layout.width
  pub enough : layout.min ≤ distinct_among layout.total (map index rows)
  pub values : length rows ≡ layout.min → All (λ row. HasValuesOf layout.lg (matrix_of layout.min layout.width elements) (index row) (cells row)) rows
  pub only : (m : MatrixOf F) → IsOfSize m layout.min layout.width → All (λ row. HasValuesOf layout.lg m (index row) (cells row)) rows → elements ≡ m.cells
