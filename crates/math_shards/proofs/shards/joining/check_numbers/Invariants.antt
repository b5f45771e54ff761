use Rattle.std.specs.List.{AllWithin}
use Rattle.math_shards.specs.Joining.{IsSound}
use Rattle.math_shards.proofs.shards.joining.check_numbers.Given as goal

-- the shards so far are sound
abbrev pub invariant-loop-shard : goal.invariant-loop-shard
invariant-loop-shard l = AllWithin (IsSound l.first) l.shards 0 l.shard-index
