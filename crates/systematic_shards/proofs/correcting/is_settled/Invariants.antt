use Rattle.std.specs.List.{AllWithin}
use Rattle.systematic_shards.specs.Correcting.{Agrees}
use Rattle.systematic_shards.proofs.correcting.is_settled.Given as goal

-- the rows so far agree with the row
abbrev pub invariant-loop-other : goal.invariant-loop-other
invariant-loop-other g l = AllWithin (Agrees g.M.WordMemory.word l.code.split l.code.mask l.row) l.rows 0 l.other-index
