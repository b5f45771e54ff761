use Rattle.std.proofs.Common.{◌*◌}
use Rattle.c_calls.specs.RootedShards.{AreShardsIn}
use Rattle.c_calls.proofs.roots.shards_of.Given as goal

-- the shards so far
abbrev pub invariant-loop-t : goal.invariant-loop-t
invariant-loop-t l = AreShardsIn (8 * l.held.split.width) l.held.split.total l.held.indices.now l.held.masks.now l.held.bytes.now l.held.paths.now l.t l.shards.items
