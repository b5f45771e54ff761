use Rattle.systematic_shards.specs.Wanted.{AreLost}
use Rattle.systematic_shards.proofs.planning.lost_rows.Given as goal

-- the lost rows so far
abbrev pub invariant-loop-place : goal.invariant-loop-place
invariant-loop-place l = AreLost l.indices l.wanted l.place l.lost.indices.items l.lost.places.items
