use Rattle.std.proofs.Common.{◌≡◌, ◌+◌, ◌<◌, ℕ, get_or}
use Rattle.systematic_shards.proofs.memory.U64WordMemory.read_run.Given as goal

-- the words so far
abbrev pub invariant-loop-k : goal.invariant-loop-k
invariant-loop-k l = (j : ℕ) → j < l.k → get_or l.out j 0 ≡ get_or l.cells (l.from + j) 0
