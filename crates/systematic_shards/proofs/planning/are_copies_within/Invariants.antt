use Rattle.systematic_shards.specs.Wanted.{AreCopiesWithin}
use Rattle.systematic_shards.proofs.planning.are_copies_within.Given as goal

-- there is room for the rows so far
abbrev pub invariant-loop-place : goal.invariant-loop-place
invariant-loop-place g l = AreCopiesWithin l.size g.M.WordMemory.word l.width l.held.indices.items l.held.rows.items l.wanted l.place
