use Rattle.std.proofs.Common.{ℕ, ◌+◌, ◌*◌, ◌<◌}
use Rattle.systematic_shards.specs.Words.{IsWithin}
use Rattle.systematic_shards.proofs.planning.is_row_within.Given as goal

-- there is room for the words so far
abbrev pub invariant-loop-k : goal.invariant-loop-k
invariant-loop-k g l = (i : ℕ) → i < l.k → i < l.width → IsWithin l.size (l.place * l.width + i) (g.M.WordMemory.word l.cells i)
