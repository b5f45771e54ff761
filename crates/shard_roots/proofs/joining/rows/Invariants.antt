use Rattle.std.proofs.Common.{◌≡◌, ◌++◌, drop}
use Rattle.shard_roots.specs.Joining.{rows_of}
use Rattle.shard_roots.proofs.joining.rows.Given as goal

-- the rows so far, and those of the rest, are all
abbrev pub invariant-loop-shard : goal.invariant-loop-shard
invariant-loop-shard l = l.rows.items ++ rows_of (drop l.shard-index l.shards) ≡ rows_of l.shards
