-- What is recovered from the rows that are kept.
use Rattle.std.proofs.Common.{◌≡◌, ◌∙◌, ℕ, ◌<◌, ◌≤◌, ◌^◌, List, Bool, length, sym, ap, subst}
use Rattle.math_theory.specs.Laws.{IsEquality}
use Rattle.math_theory.specs.Powers.{power}
use Rattle.math_theory.specs.Recovery.{count_true}
use Rattle.math_base.specs.Members.{RingOf}
use Rattle.math_base.specs.Polynomials.{value_in_ring}
use Rattle.math_transforms.specs.DomainValues.{AreValuesOnDomain}
use Rattle.math_transforms.specs.Matrices.{MatrixOf, IsOfSize, cell_of, column_of}
use Rattle.math_ntt.specs.Evaluations.{EvaluationsOf}
use Rattle.math_ntt.specs.PolynomialRows.{HaveFewCoefficients, HaveSamePolynomials}
use Rattle.math_ntt.specs.RecoveredRows.{AreRecovered}
use Rattle.math_ntt.specs.RecoveredValues.{RecoversFromSome}

-- where the polynomials have as many coefficients as rows are kept, or fewer, what is recovered from the values in these rows are the polynomials
pub kept_rows : {A : Type 0} (R : RingOf A) (root : ℕ → A) (greatest : ℕ) → RecoversFromSome R root greatest → IsEquality R.same
    → (lg : ℕ) (m v values : MatrixOf A) (kept : List Bool) (left : EvaluationsOf A) → lg ≤ greatest → m.rows ≡ 2 ^ lg → length kept ≡ m.rows
    → IsOfSize values m.rows m.cols → AreValuesOnDomain R root m values → left.matrix ≡ values → left.filled ≡ kept
    → HaveFewCoefficients R.same R.zero (count_true kept) m → AreRecovered R root left v → HaveSamePolynomials R.same R.zero v m
kept_rows R root greatest some E lg m v values kept left few rows count size V same_cells same_rows zeros recovered =
    some lg few m v left
    (record {
      rows = rows;
      as_many = ap (λ x. x.rows) same_cells ∙ size.0 ∙ rows;
      cols = ap (λ x. x.cols) same_cells ∙ size.1;
      filled = ap length same_rows ∙ count ∙ rows;
      values = λ j k l b _.
          subst (λ x. R.same (value_in_ring R (column_of R.zero m k) (power R.one R.product (root lg) j)) (cell_of R.zero x j k)) (sym same_cells)
          (E.symmetric _ _ (V lg rows j k (subst (λ n. j < n) (sym rows) l) b));
    })
    (λ k i b l. zeros k i b (subst (λ c. count_true c ≤ i) same_rows l))
    recovered
