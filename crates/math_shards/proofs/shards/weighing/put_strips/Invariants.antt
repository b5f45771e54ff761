use Rattle.std.proofs.Common.{◌*◌}
use Rattle.math_shards.specs.Weights.{ArePutBefore}
use Rattle.math_shards.proofs.shards.weighing.put_strips.Given as goal

-- the coefficients of the strips so far are written
abbrev pub invariant-loop-s : goal.invariant-loop-s
invariant-loop-s l = ArePutBefore l.weights l.shape.count l.shape.width l.initial.cells (l.s * 32) l.cells
