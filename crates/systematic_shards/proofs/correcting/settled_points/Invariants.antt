use Rattle.std.proofs.Common.{◌^◌}
use Rattle.systematic_shards.proofs.Settled.{AreMarkedBefore}
use Rattle.systematic_shards.proofs.correcting.settled_points.Given as goal

-- the points of the settled ones of the rows so far are marked
abbrev pub invariant-loop-row : goal.invariant-loop-row
invariant-loop-row g l = AreMarkedBefore g.M.WordMemory.word l.code.split l.code.mask l.rows l.row-index (2 ^ l.lg) l.points
