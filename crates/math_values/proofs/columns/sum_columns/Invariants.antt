use Rattle.std.proofs.Common.{◌*◌}
use Rattle.math_values.specs.ColumnSums.{AreColumnSums}
use Rattle.math_values.proofs.columns.sum_columns.Given as goal

-- the sums of the columns so far
abbrev pub invariant-loop-k : goal.invariant-loop-k
invariant-loop-k l = AreColumnSums l.rows l.cols l.weights (8 * l.k) l.out
