-- The command `recover LG ROW..`: its words, the encoding that its bytes have to be, and its answer.
use Rattle.std.specs.Prelude.{◌≡◌, ◌≢◌, ℕ, ◌*◌, ◌<◌, ◌≤◌, ◌^◌, List, ◌∷◌, length, codes, slice_index, slice_index_or, Bool, true, false, AllPairs, Result, Ok, Err, nat_lt, ◌==◌, if◌then◌else◌}
use Rattle.std.specs.List.{AllZip}
use Rattle.std.specs.Int.{to_be_bytes, w64}
use Rattle.math_theory.specs.Powers.{power}
use Rattle.math_theory.specs.Recovery.{count_true}
use Rattle.math_theory.specs.Values.{value}
use Rattle.math_codec.specs.Faults.{Fault, Invalid, scan_exactly, ◌>>=◌}
use Rattle.math_fields.specs.declared.goldilocks.F.{F}
use Rattle.math_fields.specs.Elements.{number, residue, same, sum, product, root_of}
use Rattle.math_fields.specs.ElementEncoding.{scan_element}
use Rattle.math_transforms.specs.Matrices.{MatrixOf, IsOfSize, AreSameMatrices, cell_of, column_of}
use Rattle.math_ntt.specs.Evaluations.{EvaluationsOf}
use Rattle.math_ntt.specs.MatrixEncoding.{matrix_spelling, scan_count, scan_matrix}
use Rattle.goldmath_commands.specs.Numerals.{WritesNumber, WritesRow}

-- the words are `recover`, one that writes lg, which is at most 24, and one for each row in turn, which is below 2^lg; no two rows are equal
pub record AreRecoverWords (words : List (List ℕ)) (lg : ℕ) (rows : List ℕ) : Type 0 where
  pub text : List ℕ
  pub texts : List (List ℕ)
  pub command : words ≡ codes "recover" ∷ text ∷ texts
  pub size : WritesNumber text lg
  pub small : lg ≤ 24
  pub each : AllZip (WritesRow lg) texts rows
  pub distinct : AllPairs (λ i j. i ≢ j) rows

-- the greatest number of rows, of columns and of cells
abbrev pub most_cells : ℕ
most_cells = 2 ^ 24

-- the spelling of a matrix over the Goldilocks field
abbrev pub spelling_of : MatrixOf F → List ℕ
spelling_of m = matrix_spelling (λ a. to_be_bytes w64 (number a)) m

-- the bytes are the encoding of the matrix
pub record IsEncodedMatrix (bytes : List ℕ) (m : MatrixOf F) : Type 0 where
  pub rows : m.rows ≤ most_cells
  pub cols : m.cols ≤ most_cells
  pub cells : length m.cells ≤ most_cells
  pub full : length m.cells ≡ m.rows * m.cols
  pub spelled : bytes ≡ spelling_of m

-- the matrix has a row for each word, and 2^lg rows of its columns are not too many cells
abbrev pub HasSize : ℕ → ℕ → MatrixOf F → Type 0
HasSize lg words m = (m.rows ≡ words) × (2 ^ lg * m.cols ≤ most_cells)

-- what is wrong with a matrix of these numbers of rows and of columns for this number of words and this domain: nothing, or the first fault
abbrev pub scan_size : ℕ → ℕ → ℕ → ℕ → Result (Unit {0}) Fault
scan_size lg words rows cols =
    if rows == words
    then (if nat_lt most_cells (2 ^ lg * cols) then Err (Invalid (codes "Matrix") (codes "too many cells")) else Ok tt)
    else Err (Invalid (codes "Matrix") (codes "row count does not match words"))

-- what reading the matrix and nothing more, and then looking at its size, meets: no fault, or the first one
unfoldable pub scan_rows : ℕ → ℕ → List ℕ → Result (Unit {0}) Fault
scan_rows lg words bytes = do
  read ← scan_exactly (scan_matrix most_cells scan_element) bytes
  rows ← scan_count most_cells bytes
  cols ← scan_count most_cells rows.1
  scan_size lg words rows.0 cols.0

-- the value at power i of the root of order 2^lg
abbrev pub value_at : ℕ → List F → ℕ → F
value_at lg coefficients i = value (residue 0) sum product (residue 1) (power (residue 1) product (root_of lg) i) coefficients

-- exactly the first n rows are marked
pub record MarksFirst (rows : List ℕ) (n : ℕ) (marks : List Bool) : Type 0 where
  pub marked : (k : ℕ) → k < n → slice_index_or marks (slice_index rows k) false ≡ true
  pub only : (p : ℕ) → slice_index_or marks p false ≡ true → (k : ℕ) × (k < n) × (slice_index rows k ≡ p)

-- the first n rows of m stand in v at the places that the rows name, and exactly these are filled
pub record HoldsRows (lg : ℕ) (rows : List ℕ) (m : MatrixOf F) (n : ℕ) (v : EvaluationsOf F) : Type 0 where
  pub size : IsOfSize v.matrix (2 ^ lg) m.cols
  pub places : length v.filled ≡ 2 ^ lg
  pub marks : MarksFirst rows n v.filled
  pub count : count_true v.filled ≡ n
  pub cells : (i k : ℕ) → i < n → k < m.cols → same (cell_of (residue 0) v.matrix (slice_index rows i) k) (cell_of (residue 0) m i k)

-- row i of m is a row of values at the power of the root that the i-th of the rows names, and column k of q is the polynomial of column k of m:
-- it has these values, and its coefficients from the number of the rows on are zero
pub record IsRecovered (lg : ℕ) (rows : List ℕ) (m q : MatrixOf F) : Type 0 where
  pub size : IsOfSize q (2 ^ lg) m.cols
  pub agrees : (i k : ℕ) → i < length rows → k < m.cols → same (value_at lg (column_of (residue 0) q k) (slice_index rows i)) (cell_of (residue 0) m i k)
  pub zero_from : (i k : ℕ) → length rows ≤ i → i < 2 ^ lg → k < m.cols → same (cell_of (residue 0) q i k) (residue 0)

-- the bytes are the encoding of the one matrix that is recovered from m
abbrev pub EncodesRecovered : ℕ → List ℕ → MatrixOf F → List ℕ → Type 0
EncodesRecovered lg rows m bytes =
    (q : MatrixOf F) × IsRecovered lg rows m q × ((p : MatrixOf F) → IsRecovered lg rows m p → AreSameMatrices same p q) × (bytes ≡ spelling_of q)
