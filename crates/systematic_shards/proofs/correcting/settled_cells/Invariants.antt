use Rattle.std.proofs.Common.{◌*◌, ◌^◌}
use Rattle.systematic_shards.proofs.Settled.{AreWrittenBefore}
use Rattle.systematic_shards.proofs.correcting.settled_cells.Given as goal

-- the settled ones of the rows so far have their elements in the cells
abbrev pub invariant-loop-row : goal.invariant-loop-row
invariant-loop-row g l = AreWrittenBefore g.M.WordMemory.word l.code.split l.code.mask l.rows l.row-index (2 ^ l.lg * l.code.split.width) l.cells.items
