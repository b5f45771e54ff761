-- Rows of words as coefficients and values of polynomials at the points of a domain, one polynomial a column.
use Rattle.std.specs.Prelude.{◌≡◌, ℕ, ◌+◌, ◌*◌, ◌<◌, ◌≤◌, ◌^◌, ◌==◌, List, length, map, All, slice_index, slice_index_or, Bool}
use Rattle.math_numbers.specs.Goldilocks.{P}
use Rattle.math_fields.specs.declared.goldilocks.F.{F}
use Rattle.math_fields.specs.Elements.{residue, root_of}
use Rattle.math_transforms.specs.DomainValues.{matrix_of, AreValuesAtPowers}
use Rattle.math_ntt.specs.Evaluations.{EvaluationsOf}
use Rattle.math_transforms.specs.Matrices.{MatrixOf}
use Rattle.math_ntt.specs.RecoveredRows.{AreRecovered, AreOnlyRecovered}
use Rattle.c_calls.specs.WordElements.{AreElements, elements, goldilocks}

-- the number is 2^lg, and there is a root of that order
abbrev pub IsDomainSize : ℕ → Type 0
IsDomainSize rows = (lg : ℕ) × (lg ≤ 32) × (rows ≡ 2 ^ lg)

-- n cells are rows of one column or more, and there are as many rows as a domain has points
abbrev pub HasRows : ℕ → ℕ → Type 0
HasRows n cols = (rows : ℕ) × IsDomainSize rows × (0 < cols) × (n ≡ rows * cols)

-- the words as a matrix of elements
abbrev pub word_matrix : ℕ → ℕ → List ℕ → MatrixOf F
word_matrix rows cols words = matrix_of rows cols (elements words)

-- the cells are 2^lg rows of words below P, and the items are these as elements
pub record AreElementRows (lg cols : ℕ) (cells : List ℕ) (items : List F) : Type 0 where
  pub small : lg ≤ 32
  pub count : length cells ≡ 2 ^ lg * cols
  pub below : AreElements cells
  pub are : items ≡ elements cells

-- both are 2^lg rows of elements: in each column the item in row j of the values is the value of the column's polynomial at power j of the
-- root of order 2^lg
pub record AreWordValues (cols : ℕ) (coefficients values : List ℕ) : Type 0 where
  pub lg : ℕ
  pub small : lg ≤ 32
  pub count : length coefficients ≡ 2 ^ lg * cols
  pub value_count : length values ≡ 2 ^ lg * cols
  pub coefficients_below : AreElements coefficients
  pub values_below : AreElements values
  pub at_powers : AreValuesAtPowers goldilocks (root_of lg) (word_matrix (2 ^ lg) cols coefficients) (word_matrix (2 ^ lg) cols values)

-- the truth values that bytes say: 1 is true
abbrev pub truth : List ℕ → List Bool
truth bytes = map (λ b. b == 1) bytes

-- the rows of cells whose byte is 1 hold words below P
abbrev pub AreFilledElements : ℕ → List ℕ → List ℕ → Type 0
AreFilledElements cols cells bytes = (i k : ℕ) → i < length bytes → slice_index bytes i ≡ 1 → k < cols → slice_index cells (i * cols + k) < P

-- in the rows whose byte is 1 the items are the elements of the cells
abbrev pub AreElementsWhereFilled : ℕ → List ℕ → List ℕ → List F → Type 0
AreElementsWhereFilled cols cells bytes items =
    (i k : ℕ) → i < length bytes → slice_index bytes i ≡ 1 → k < cols → slice_index_or items (i * cols + k) (residue 0) ≡ residue (slice_index cells (i * cols + k))

-- a row of cells for each byte, of one column or more, and as many as a domain has points
pub record HasRowsFor (n cols rows : ℕ) : Type 0 where
  pub domain : IsDomainSize rows
  pub some : 0 < cols
  pub count : n ≡ rows * cols

-- the rows of cells, of which those are filled whose byte is 1
abbrev pub word_evaluations : ℕ → List ℕ → List ℕ → EvaluationsOf F
word_evaluations cols cells bytes = record { matrix = word_matrix (length bytes) cols cells; filled = truth bytes }

-- column by column the coefficients are the only polynomial that has the cells of the filled rows as its values, and whose coefficients
-- from the number of filled rows on are zero
pub record AreRecoveredWords (cols : ℕ) (cells bytes coefficients : List ℕ) : Type 0 where
  pub shape : HasRowsFor (length cells) cols (length bytes)
  pub marks : All (λ b. b ≤ 1) bytes
  pub cells_below : AreFilledElements cols cells bytes
  pub count : length coefficients ≡ length cells
  pub coefficients_below : AreElements coefficients
  pub fits : AreRecovered goldilocks root_of (word_evaluations cols cells bytes) (word_matrix (length bytes) cols coefficients)
  pub only : AreOnlyRecovered goldilocks root_of (word_evaluations cols cells bytes) (word_matrix (length bytes) cols coefficients)
