use Rattle.std.proofs.Common.{◌≡◌, length}
use Rattle.shard_reading.proofs.joining.first_indices.Given as goal

abbrev pub invariant-loop-index : goal.invariant-loop-index
invariant-loop-index l = length l.indices.items ≡ l.index
