use Rattle.std.proofs.Common.{◌≡◌, ℕ, ◌<◌, length}
use Rattle.math_ntt.proofs.MatrixProducts.{Makes}
use Rattle.math_ntt.proofs.ntt.matrix.product.of_row.Given as goal

-- the rows so far are added
abbrev pub invariant-loop-j : goal.invariant-loop-j
invariant-loop-j g l =
    let F = g.met.F in
    record {
      count : length l.sums.items ≡ l.other.cols;
      sums : (k : ℕ) → k < l.other.cols → Makes F.Object.equality F.Additive.group F.Multiplicative.commutes l.other l.row l.sums.items l.j k;
    }
