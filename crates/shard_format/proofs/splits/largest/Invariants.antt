use Rattle.std.proofs.Common.{take}
use Rattle.shard_format.specs.Splits.{IsLargestOf, IsRightCount}
use Rattle.shard_format.proofs.splits.largest.Given as goal

-- it is the largest of the splits of the headers so far, and the last was counted right
abbrev pub invariant-loop-header : goal.invariant-loop-header
invariant-loop-header l = record {
  best : IsLargestOf l.headers (take l.header-index l.headers) l.seen.best;
  right : IsRightCount l.headers l.seen.last;
}
