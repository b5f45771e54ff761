-- What the laws say of the places of a matrix: rows, columns and cells name the same items, and a write changes its own cells alone.
use Rattle.std.specs.Prelude.{◌≡◌, ℕ, ◌+◌, ◌*◌, ◌<◌, ◌≤◌, List, length, get_or}
use Rattle.math_transforms.specs.Matrices.{MatrixOf, rows_of, row_of, column_of, cell_of, IsOfSize}
use Rattle.math_ntt.specs.MatrixLends.{with_cell, with_row}
use Rattle.math_ntt.specs.Evaluations.{EvaluationsOf, IsFilledAt}

-- there are rows times columns cells
abbrev pub IsFull : {A : Type 0} → MatrixOf A → Type 0
IsFull m = length m.cells ≡ m.rows * m.cols

-- n has the size of m, and differs from it only in the written cells of row i
pub record DiffersInRow {A : Type 0} (m n : MatrixOf A) (i : ℕ) (written : ℕ → Type 0) : Type 0 where
  pub size : IsOfSize n m.rows m.cols
  pub others : (d : A) (j l : ℕ) → j < m.rows → l < m.cols → (j ≡ i → written l → ⊥) → cell_of d n j l ≡ cell_of d m j l

module _ (A : Type 0) where
  -- item i of the list of rows is row i
  abbrev pub RowsAreListed : Type 0
  RowsAreListed = (m : MatrixOf A) (i : ℕ) (d : List A) → i < m.rows → get_or (rows_of m) i d ≡ row_of m i

  -- each row has as many items as there are columns
  abbrev pub RowsAreFull : Type 0
  RowsAreFull = (m : MatrixOf A) (i : ℕ) → IsFull m → i < m.rows → length (row_of m i) ≡ m.cols

  -- item k of row i is the cell in row i and column k
  abbrev pub RowsHoldCells : Type 0
  RowsHoldCells = (m : MatrixOf A) (i k : ℕ) (d : A) → k < m.cols → get_or (row_of m i) k d ≡ cell_of d m i k

  -- each column has as many items as there are rows
  abbrev pub ColumnsAreFull : Type 0
  ColumnsAreFull = (m : MatrixOf A) (k : ℕ) (d : A) → length (column_of d m k) ≡ m.rows

  -- item i of column k is the cell in row i and column k
  abbrev pub ColumnsHoldCells : Type 0
  ColumnsHoldCells = (m : MatrixOf A) (i k : ℕ) (d e : A) → i < m.rows → k < m.cols → get_or (column_of d m k) i e ≡ cell_of d m i k

  -- what is written at a cell stands there, and no other cell is changed
  abbrev pub CellsAreWrittenAlone : Type 0
  CellsAreWrittenAlone = (m : MatrixOf A) (i k : ℕ) (a d : A) → IsFull m → i < m.rows → k < m.cols
      → let n = with_cell m (i * m.cols + k) a in (cell_of d n i k ≡ a) × DiffersInRow m n i (λ l. l ≡ k)

  -- what is written at a row is the row, and no cell of another row is changed
  abbrev pub RowsAreWrittenAlone : Type 0
  RowsAreWrittenAlone = (m : MatrixOf A) (i : ℕ) (row : List A) → IsFull m → i < m.rows → length row ≡ m.cols
      → let n = with_row m i row in ((k : ℕ) (d : A) → k < m.cols → cell_of d n i k ≡ get_or row k d) × DiffersInRow m n i (λ l. l < m.cols)

  -- the first cells of a row that is filled are copies of the items, and no other cell is changed
  abbrev pub RowsAreFilledAlone : (A → A → Type 0) → Type 0
  RowsAreFilledAlone same = (v w : EvaluationsOf A) (i : ℕ) (items : List A) → IsFull v.matrix → i < v.matrix.rows → length items ≤ v.matrix.cols
      → IsFilledAt same v i items w
      → ((k : ℕ) (d : A) → k < length items → same (cell_of d w.matrix i k) (get_or items k d)) × DiffersInRow v.matrix w.matrix i (λ l. l < length items)
