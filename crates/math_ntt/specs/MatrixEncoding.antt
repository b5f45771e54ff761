-- Matrices as bytes: the number of rows, the number of columns, and the list of the cells.
use Rattle.std.specs.Prelude.{◌≡◌, ℕ, ◌*◌, ◌<◌, ◌≤◌, ◌^◌, List, ◌++◌, length, Result, Ok, Err, nat_lt, ◌==◌, if◌then◌else◌, codes}
use Rattle.std.specs.List.{All}
use Rattle.math_codec.specs.declared.codec.range.LengthRange.{LengthRange}
use Rattle.math_codec.specs.Faults.{Fault, InvalidLength, Invalid, ◌>>=◌}
use Rattle.math_codec.specs.Lengths.{length_spelling, length_at, length_in_front}
use Rattle.math_codec.specs.Lists.{list_spelling, scan_list, AdmitsList, ListGrows}
use Rattle.math_transforms.specs.Matrices.{MatrixOf}

-- a matrix is spelled by its number of rows, its number of columns, and the list of its cells, row by row
abbrev pub matrix_spelling : {A : Type 0} → (A → List ℕ) → MatrixOf A → List ℕ
matrix_spelling spelling m = length_spelling m.rows ++ (length_spelling m.cols ++ list_spelling spelling m.cells)

-- the lengths from 0 to most
abbrev pub at_most : ℕ → LengthRange
at_most most = record { low = 0; high = most }

-- the greatest count admits the matrix: none of its three counts is greater, it has rows times columns cells, and each is admitted
pub record AdmitsMatrix {A : Type 0} (most : ℕ) (admits : A → Type 0) (m : MatrixOf A) : Type 0 where
  pub rows_fit : m.rows < 2 ^ 32
  pub cols_fit : m.cols < 2 ^ 32
  pub rows_counted : m.rows ≤ most
  pub cols_counted : m.cols ≤ most
  pub full : length m.cells ≡ m.rows * m.cols
  pub each : AdmitsList (at_most most) admits m.cells

-- each length that is written is below 2^32, and each cell can be written
pub record FitsMatrix {A : Type 0} (fits : A → Type 0) (m : MatrixOf A) : Type 0 where
  pub rows_fit : m.rows < 2 ^ 32
  pub cols_fit : m.cols < 2 ^ 32
  pub cells_fit : length m.cells < 2 ^ 32
  pub each : All fits m.cells

-- the length that stands in front, which may be at most the greatest count, and what follows; or the first fault
unfoldable pub scan_count : ℕ → List ℕ → Result (ℕ × List ℕ) Fault
scan_count most bytes = do
  n ← length_at bytes
  if nat_lt most n.0 then Err (InvalidLength n.0) else Ok n

-- what a read of a matrix leaves, or the first fault; that the list has not rows times columns cells is found after its cells are read
unfoldable pub scan_matrix : ℕ → (List ℕ → Result (List ℕ) Fault) → List ℕ → Result (List ℕ) Fault
scan_matrix most scan bytes = do
  rows ← scan_count most bytes
  cols ← scan_count most rows.1
  rest ← scan_list (at_most most) scan cols.1
  if length_in_front cols.1 == rows.0 * cols.0 then Ok rest else Err (Invalid (codes "Matrix") (codes "matrix element count does not match dimensions"))

-- a read of a matrix takes memory: its numbers of rows and of columns are read, and the list of its cells takes some
abbrev pub MatrixGrows : ℕ → (List ℕ → Result (List ℕ) Fault) → (List ℕ → Type 0) → List ℕ → Type 0
MatrixGrows most scan grows bytes = (rows : ℕ × List ℕ) × (cols : ℕ × List ℕ) × (scan_count most bytes ≡ Ok rows) × (scan_count most rows.1 ≡ Ok cols) × ListGrows (at_most most) scan grows cols.1
