use Rattle.std.proofs.Common.{◌≡◌, ℕ, ◌+◌, ◌*◌, ◌<◌, length, get_or}
use Rattle.math_theory.specs.Sums.{weighted_sum}
use Rattle.math_transforms.specs.Matrices.{row_of, column_of}
use Rattle.math_ntt.proofs.ntt.matrix.Matrix.mul.Given as goal

-- the cells of the rows so far
abbrev pub invariant-loop-i : goal.invariant-loop-i
invariant-loop-i g l =
    let zero = g.F.Additive.zero in
    record {
      count : length l.cells.items ≡ l.i * l.other.cols;
      cells : (i k : ℕ) → i < l.i → k < l.other.cols
          → g.F.Object.same (get_or l.cells.items (i * l.other.cols + k) zero) (weighted_sum zero g.F.Additive.sum g.F.Multiplicative.product (row_of l.self i) (column_of zero l.other k));
    }
