use Rattle.std.proofs.Common.{◌≡◌, ◌+◌, ◌<◌, ℕ, get_or}
use Rattle.systematic_shards.specs.Words.{word_of_bytes}
use Rattle.systematic_shards.proofs.memory.read_words.Given as goal

-- the words so far
abbrev pub invariant-loop-k : goal.invariant-loop-k
invariant-loop-k l = (j : ℕ) → j < l.k → get_or l.out j 0 ≡ word_of_bytes l.cells (l.from + j)
