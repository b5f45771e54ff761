-- Rows of values of which some filled ones are wrong, and the polynomials that are recovered from the others.
use Rattle.std.specs.List.{All, Contains}
use Rattle.std.specs.List.Sorted.{IsStrictlyIncreasing}
use Rattle.std.specs.Prelude.{◌≡◌, ℕ, ◌+◌, ◌<◌, ◌≤◌, List, Bool, false, true, length, slice_index_or}
use Rattle.math_theory.specs.Coefficients.{HaveSameCoefficients, coefficient}
use Rattle.math_theory.specs.Powers.{power}
use Rattle.math_theory.specs.Recovery.{count_true}
use Rattle.math_base.specs.Members.{RingOf}
use Rattle.math_base.specs.Polynomials.{value_in_ring}
use Rattle.math_transforms.specs.Matrices.{MatrixOf, IsOfSize, column_of, cell_of}
use Rattle.math_ntt.specs.Evaluations.{EvaluationsOf}

-- the value of p at power i of w is the cell in row i and column k
abbrev pub AgreesAtRow : {A : Type 0} → RingOf A → A → MatrixOf A → ℕ → ℕ → List A → Type 0
AgreesAtRow R w m i k p = R.same (value_in_ring R p (power R.one R.product w i)) (cell_of R.zero m i k)

-- each a k, for a column k, has at most count coefficients, and agrees with the cells of the rows that `right` marks; these are all of the m filled
-- rows but some e, where 2 e + count is at most m
pub record AreWithinRadius {A : Type 0} (R : RingOf A) (w : A) (e : EvaluationsOf A) (count : ℕ) (a : ℕ → List A) : Type 0 where
  pub right : List Bool
  pub marks : length right ≡ length e.filled
  pub among : (i : ℕ) → slice_index_or right i false ≡ true → slice_index_or e.filled i false ≡ true
  pub few : count_true e.filled + count ≤ count_true right + count_true right
  pub short : (k : ℕ) → k < e.matrix.cols → length (a k) ≤ count
  pub agree : (i k : ℕ) → k < e.matrix.cols → slice_index_or right i false ≡ true → AgreesAtRow R w e.matrix i k (a k)

-- by rising number, the filled rows at which some a k does not agree with the cell
pub record AreWrongRows {A : Type 0} (R : RingOf A) (w : A) (e : EvaluationsOf A) (a : ℕ → List A) (wrong : List ℕ) : Type 0 where
  pub rising : IsStrictlyIncreasing wrong
  pub filled : All (λ i. slice_index_or e.filled i false ≡ true) wrong
  pub differ : All (λ i. (k : ℕ) × (k < e.matrix.cols) × ¬ (AgreesAtRow R w e.matrix i k (a k))) wrong
  pub agree : (i k : ℕ) → k < e.matrix.cols → slice_index_or e.filled i false ≡ true → ¬ (Contains wrong i) → AgreesAtRow R w e.matrix i k (a k)

-- the columns of v have no coefficient other than zero from count on; the wrong rows are those at which they differ from the m filled ones, twice
-- their number and count is at most m; and whatever is within that radius is the same polynomials
pub record IsCorrected {A : Type 0} (R : RingOf A) (w : A) (e : EvaluationsOf A) (count : ℕ) (v : MatrixOf A) (wrong : List ℕ) : Type 0 where
  pub size : IsOfSize v e.matrix.rows e.matrix.cols
  pub zero_from : (k i : ℕ) → k < e.matrix.cols → count ≤ i → R.same (coefficient R.zero (column_of R.zero v k) i) R.zero
  pub rows : AreWrongRows R w e (column_of R.zero v) wrong
  pub few : length wrong + length wrong + count ≤ count_true e.filled
  pub only : (a : ℕ → List A) → AreWithinRadius R w e count a → (k : ℕ) → k < e.matrix.cols → HaveSameCoefficients R.same R.zero (a k) (column_of R.zero v k)
