use Rattle.std.proofs.Common.{◌≡◌, take}
use Rattle.shard_format.specs.Splits.{count_of_split}
use Rattle.shard_format.proofs.splits.count_of_split.Given as goal

-- how many of the headers so far are of the split
abbrev pub invariant-loop-header : goal.invariant-loop-header
invariant-loop-header l = l.count ≡ count_of_split l.split (take l.header-index l.headers)
