use Rattle.systematic_shards.specs.Masks.{AreTaken}
use Rattle.systematic_shards.proofs.mask.taken_masks.Given as goal

-- the complements of the words so far are taken
abbrev pub invariant-loop-k : goal.invariant-loop-k
invariant-loop-k g l = AreTaken l.count (g.M.WordMemory.word l.cells) l.k l.taken.items
