use Rattle.math_shards.specs.Weights.{AreRead}
use Rattle.math_shards.proofs.shards.weighing.read_strip.Given as goal

-- the cells of the rows so far
abbrev pub invariant-loop-r : goal.invariant-loop-r
invariant-loop-r l = AreRead l.shape.width l.k 32 l.cells l.r l.strip
