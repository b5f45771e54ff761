use Rattle.std.proofs.Common.{◌≡◌, true, take}
use Rattle.std.specs.List.{list_all}
use Rattle.math_shards.proofs.SettledShards.{agrees}
use Rattle.math_shards.proofs.shards.correcting.is_settled.Given as goal

-- the shards so far have another index, or the cells of this one
abbrev pub invariant-loop-other : goal.invariant-loop-other
invariant-loop-other l = list_all (agrees l.shard) (take l.other-index l.shards) ≡ true
