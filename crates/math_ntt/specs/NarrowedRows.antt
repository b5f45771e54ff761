-- One column of cells in the filled rows, and what is decoded from it.
use Rattle.std.specs.Prelude.{◌≡◌, ℕ, ◌+◌, ◌≤◌, List, Bool, false, true, length, slice_index_or}
use Rattle.math_theory.specs.Coefficients.{HaveSameCoefficients}
use Rattle.math_theory.specs.Recovery.{count_true}
use Rattle.math_base.specs.Members.{RingOf}
use Rattle.math_ntt.specs.Evaluations.{EvaluationsOf}
use Rattle.math_ntt.specs.CorrectedRows.{AgreesAtRow}

-- p has at most count coefficients, and agrees with column k in the rows that `right` marks; these are all of the m filled rows but some e, where
-- 2 e + count is at most m
pub record IsNear {A : Type 0} (R : RingOf A) (w : A) (e : EvaluationsOf A) (k count : ℕ) (p : List A) : Type 0 where
  pub right : List Bool
  pub marks : length right ≡ length e.filled
  pub among : (i : ℕ) → slice_index_or right i false ≡ true → slice_index_or e.filled i false ≡ true
  pub few : count_true e.filled + count ≤ count_true right + count_true right
  pub short : length p ≤ count
  pub agree : (i : ℕ) → slice_index_or right i false ≡ true → AgreesAtRow R w e.matrix i k p

-- a polynomial of count coefficients, the same as all that are near, agrees with column k in exactly those filled rows that are left
pub record IsNarrowed {A : Type 0} (R : RingOf A) (w : A) (e : EvaluationsOf A) (k count : ℕ) (left : List Bool) : Type 0 where
  pub polynomial : List A
  pub number : length polynomial ≡ count
  pub marks : length left ≡ length e.filled
  pub among : (i : ℕ) → slice_index_or left i false ≡ true → slice_index_or e.filled i false ≡ true
  pub agree : (i : ℕ) → slice_index_or left i false ≡ true → AgreesAtRow R w e.matrix i k polynomial
  pub differ : (i : ℕ) → slice_index_or e.filled i false ≡ true → slice_index_or left i false ≡ false → ¬ (AgreesAtRow R w e.matrix i k polynomial)
  pub only : (p : List A) → IsNear R w e k count p → HaveSameCoefficients R.same R.zero p polynomial
