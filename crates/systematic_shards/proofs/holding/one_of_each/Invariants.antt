use Rattle.systematic_shards.specs.Held.{AreKept}
use Rattle.systematic_shards.proofs.holding.one_of_each.Given as goal

-- one row of each index of the rows so far
abbrev pub invariant-loop-row : goal.invariant-loop-row
invariant-loop-row g l = AreKept g.M.WordMemory.word l.code.split.width l.row-items l.row-index l.kept.items
