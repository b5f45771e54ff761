use Rattle.std.proofs.Common.{◌≡◌}
use Rattle.shard_reading.proofs.cells.find_shards.Given as goal

abbrev pub invariant-loop-place : goal.invariant-loop-place
invariant-loop-place l = l.found.split ≡ l.split
