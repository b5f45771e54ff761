use Rattle.std.proofs.Common.{◌≡◌, ◌<◌, ℕ, [], get_or}
use Rattle.std.specs.Int.{from_le_bytes, w64}
use Rattle.systematic_shards.proofs.memory.read_whole_words.Given as goal

-- the words so far
abbrev pub invariant-loop-k : goal.invariant-loop-k
invariant-loop-k l = (j : ℕ) → j < l.k → get_or l.out j 0 ≡ from_le_bytes w64 (get_or l.words j [])
