use Rattle.systematic_shards.specs.Correcting.{cells_at}
use Rattle.systematic_shards.proofs.Positions.{AreRowsBefore}
use Rattle.systematic_shards.proofs.correcting.write_rows.Given as goal

-- the rows so far are written
abbrev pub invariant-loop-t : goal.invariant-loop-t
invariant-loop-t g l = AreRowsBefore l.code.split l.code.mask (cells_at l.code.split.width l.cells) l.wanted l.t (g.M.WordMemory.word l.out)
