use Rattle.systematic_shards.specs.Wanted.{AreCopied}
use Rattle.systematic_shards.proofs.planning.write_copies.Given as goal

-- the rows so far are copied
abbrev pub invariant-loop-place : goal.invariant-loop-place
invariant-loop-place g l = AreCopied g.M.WordMemory.word l.width l.held.indices.items l.held.rows.items l.wanted l.place (g.M.WordMemory.word l.out)
