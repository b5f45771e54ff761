use Rattle.std.proofs.Common.{◌≡◌, map, take}
use Rattle.std.specs.List.{filter}
use Rattle.math_splitting.specs.declared.shards.Shard.{Shard}
use Rattle.math_shards.specs.Correcting.{is_settled}
use Rattle.math_shards.proofs.shards.correcting.count_settled.Given as goal

-- the indices of the settled ones of the shards so far
abbrev pub invariant-loop-shard : goal.invariant-loop-shard
invariant-loop-shard l = l.indices.items ≡ map (λ (s : Shard). s.index) (filter (is_settled l.shards) (take l.shard-index l.shards))
