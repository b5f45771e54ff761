-- Values from which the polynomials that have them are recovered.
use Rattle.std.specs.Prelude.{◌≡◌, ℕ, ◌<◌, ◌≤◌, ◌^◌, length, replicate, slice_index_or, false, true}
use Rattle.math_theory.specs.Powers.{power}
use Rattle.math_theory.specs.Recovery.{count_true}
use Rattle.math_base.specs.Members.{RingOf}
use Rattle.math_base.specs.Polynomials.{value_in_ring}
use Rattle.math_ntt.specs.Evaluations.{EvaluationsOf}
use Rattle.math_transforms.specs.Matrices.{MatrixOf, column_of, cell_of}
use Rattle.math_ntt.specs.PolynomialRows.{HaveFewCoefficients, HaveSamePolynomials}
use Rattle.math_ntt.specs.RecoveredRows.{AreRecovered}

-- both have 2^lg rows and as many columns, and the filled cells of e are the values of the columns of m at the powers of root lg
pub record HoldsValues {A : Type 0} (R : RingOf A) (root : ℕ → A) (lg : ℕ) (m : MatrixOf A) (e : EvaluationsOf A) : Type 0 where
  pub rows : m.rows ≡ 2 ^ lg
  pub as_many : e.matrix.rows ≡ 2 ^ lg
  pub cols : e.matrix.cols ≡ m.cols
  pub filled : length e.filled ≡ 2 ^ lg
  pub values : (j k : ℕ) → j < 2 ^ lg → k < m.cols → slice_index_or e.filled j false ≡ true
      → R.same (value_in_ring R (column_of R.zero m k) (power R.one R.product (root lg) j)) (cell_of R.zero e.matrix j k)

-- where the coefficients from the number of filled rows on are zero, the polynomials are recovered from the filled values
abbrev pub RecoversFromSome : {A : Type 0} → RingOf A → (ℕ → A) → ℕ → Type 0
RecoversFromSome {A} R root greatest =
    (lg : ℕ) → lg ≤ greatest → (m v : MatrixOf A) → (e : EvaluationsOf A) → HoldsValues R root lg m e
    → HaveFewCoefficients R.same R.zero (count_true e.filled) m → AreRecovered R root e v → HaveSamePolynomials R.same R.zero v m

-- the polynomials are recovered from all values
abbrev pub RecoversFromAll : {A : Type 0} → RingOf A → (ℕ → A) → ℕ → Type 0
RecoversFromAll {A} R root greatest =
    (lg : ℕ) → lg ≤ greatest → (m v : MatrixOf A) → (e : EvaluationsOf A) → HoldsValues R root lg m e → e.filled ≡ replicate (2 ^ lg) true
    → AreRecovered R root e v → HaveSamePolynomials R.same R.zero v m
