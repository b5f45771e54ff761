-- Strips of columns of the rows that data fill, and their values.
use Rattle.std.specs.Prelude.{◌≡◌, ℕ, ◌+◌, ◌-◌, ◌*◌, ◌/◌, ◌<◌, ◌^◌, List, ◌++◌, length, take, slice_index, slice_index_or, nat_lt, if◌then◌else◌}
use Rattle.math_numbers.specs.Bits as Bits
use Rattle.math_numbers.specs.Bits.{bits}
use Rattle.math_theory.specs.BitReversal.{bit_reversed}
use Rattle.math_theory.specs.Coefficients.{HaveSameCoefficients}
use Rattle.math_fields.specs.declared.goldilocks.F.{F}
use Rattle.math_fields.specs.Elements.{residue, root_of, same, goldilocks}
use Rattle.math_transforms.specs.DomainValues.{matrix_of}
use Rattle.math_transforms.specs.Matrices.{MatrixOf, cell_of, column_of}
use Rattle.math_transforms.specs.RootTrees.{IsTreeOf}
use Rattle.math_splitting.specs.declared.shards.layouts.Layout.{Layout}
use Rattle.math_splitting.specs.Shards.{elements_for, rows_for, value_at_index, width_for}

-- the table is the tree of square roots of a domain of 2^lg points
abbrev pub IsTableOf : ℕ → List F → Type 0
IsTableOf lg table = IsTreeOf goldilocks root_of (residue 1) lg table

-- the layout is right for the shards of the data, which are fewer than 2^61 words: the rows that these fill have its width, and the places
-- of their cells fit a word
pub record IsLayoutOf (words : List ℕ) (layout : Layout) : Type 0 where
  pub few : length words < 2 ^ 61
  pub width : layout.width ≡ width_for layout.min words
  pub fits : layout.min * layout.width < 2 ^ 64

-- the element of 63 bits of which the first ones are the `taken` highest bits of one word, and the others the lowest of the next
abbrev pub piece_of : ℕ → ℕ → ℕ → F
piece_of before word taken = residue (Bits.number (take 63 (bits taken (before / 2 ^ (64 - taken)) ++ bits 64 word)))

-- the element in this place, of the elements that the words pack to, and zero past the last one
abbrev pub packed_at : List ℕ → ℕ → F
packed_at words place = slice_index_or (elements_for words) place (residue 0)

-- the cells are the elements whose first bits are the highest ones of a word, and the others the lowest of the next: of cell k the `taken` + k highest
abbrev pub ArePieces : List ℕ → ℕ → List F → Type 0
ArePieces words taken cells = (k : ℕ) → k < length cells → same (slice_index_or cells k (residue 0)) (piece_of (slice_index words k) (slice_index words (k + 1)) (taken + k))

-- the cells are the elements that the words pack to, from place `first` on
abbrev pub ArePacked : List ℕ → ℕ → List F → Type 0
ArePacked words first cells = (k : ℕ) → k < length cells → same (slice_index_or cells k (residue 0)) (packed_at words (first + k))

-- n rows of c cells: their columns have the coefficients of the columns of the rows of data, from column `from` on
pub record IsStripOf (words : List ℕ) (min n from c : ℕ) (cells : List F) : Type 0 where
  pub count : length cells ≡ n * c
  pub columns : (k : ℕ) → k < c → HaveSameCoefficients same (residue 0) (column_of (residue 0) (matrix_of n c cells) k) (column_of (residue 0) (rows_for min words) (from + k))

-- the row that has the values at power i of the root of order 2^lg: of at most 2^8 rows the one whose number has the lg bits of i in the
-- opposite order, and of more row i
abbrev pub place_of : ℕ → ℕ → ℕ
place_of lg i = if nat_lt 8 lg then i else bit_reversed lg i

-- rows of c cells in the order of the tree, the old ones, are each in the place of their index
abbrev pub ArePlaced : ℕ → ℕ → List F → List F → Type 0
ArePlaced lg c old new =
    (i k : ℕ) → i < 2 ^ lg → k < c → cell_of (residue 0) (matrix_of (2 ^ lg) c new) (place_of lg i) k ≡ cell_of (residue 0) (matrix_of (2 ^ lg) c old) (bit_reversed lg i) k

-- 2^lg rows of c cells: cell k of the row in the place of i is the value, at power i of the root of order 2^lg, of the polynomial whose coefficients are
-- column from + k of the rows of data
pub record HasStripValues (words : List ℕ) (min lg from c : ℕ) (cells : List F) : Type 0 where
  pub count : length cells ≡ 2 ^ lg * c
  pub values : (i k : ℕ) → i < 2 ^ lg → k < c
      → same (cell_of (residue 0) (matrix_of (2 ^ lg) c cells) (place_of lg i) k) (value_at_index lg (column_of (residue 0) (rows_for min words) (from + k)) i)

-- the row has, for each column of the matrix, its value at power i of the root of order 2^lg
pub record HasValuesAt (lg i : ℕ) (m : MatrixOf F) (row : List F) : Type 0 where
  pub count : length row ≡ m.cols
  pub values : (k : ℕ) → k < m.cols → slice_index_or row k (residue 0) ≡ value_at_index lg (column_of (residue 0) m k) i
