use Rattle.std.proofs.Common.{◌≡◌, ◌<◌, ℕ, get_or}
use Rattle.shard_roots.specs.declared.shards.Shard.{Shard}
use Rattle.shard_roots.proofs.joining.other_mask.Given as goal

-- the shards so far have the mask
abbrev pub invariant-loop-i : goal.invariant-loop-i
invariant-loop-i l = (k : ℕ) (d : Shard) → k < l.i → (get_or l.shards k d).mask ≡ l.mask
