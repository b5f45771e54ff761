use Rattle.std.proofs.Common.{length}
use Rattle.math_shards.specs.Weights.{IsColumnPut, weighed_at}
use Rattle.math_shards.proofs.shards.weighing.put_column.Given as goal

-- the coefficients so far of the column are written, and no others
abbrev pub invariant-loop-r : goal.invariant-loop-r
invariant-loop-r l = IsColumnPut (length l.column) l.width l.k (weighed_at l.weights l.column) l.initial.cells l.r l.cells
