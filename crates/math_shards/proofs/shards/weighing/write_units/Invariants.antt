use Rattle.math_shards.specs.Weights.{AreUnitRows}
use Rattle.math_shards.proofs.shards.weighing.write_units.Given as goal

-- the ones so far, and zeros
abbrev pub invariant-loop-i : goal.invariant-loop-i
invariant-loop-i l = AreUnitRows l.n l.i l.cells
