use Rattle.math_shards.specs.Joining.{ArePlacesByIndex}
use Rattle.math_shards.proofs.shards.joining.put_places.Given as goal

-- the places of the rows so far
abbrev pub invariant-loop-i : goal.invariant-loop-i
invariant-loop-i g l = ArePlacesByIndex g.R.Row.index g.R.Row.cells l.indices l.rows l.i l.places
