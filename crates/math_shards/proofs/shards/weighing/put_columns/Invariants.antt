use Rattle.std.proofs.Common.{length}
use Rattle.math_shards.specs.Weights.{ArePutBefore}
use Rattle.math_shards.proofs.shards.weighing.put_columns.Given as goal

-- the coefficients of the columns so far are written
abbrev pub invariant-loop-k : goal.invariant-loop-k
invariant-loop-k l = ArePutBefore l.weights (length l.fn.column) l.width l.fn.cells l.k l.cells
