use Rattle.std.proofs.Common.{◌≡◌, ℕ, ◌+◌, ◌<◌, get_or}
use Rattle.math_fields.specs.Packing.{words_of}
use Rattle.math_shards.proofs.shards.unpacking.unpack_run.Given as goal

-- the words so far
abbrev pub invariant-loop-k : goal.invariant-loop-k
invariant-loop-k l = (j : ℕ) → j < l.k → get_or l.out j 0 ≡ get_or (words_of l.elements) (l.first + j) 0
