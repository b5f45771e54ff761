use Rattle.std.proofs.Common.{take}
use Rattle.std.specs.List.{All}
use Rattle.shard_format.specs.Splits.{IsRightCount, IsRival}
use Rattle.shard_format.proofs.splits.rival.Given as goal

-- none of the headers so far is a rival, and the last was counted right
abbrev pub invariant-loop-header : goal.invariant-loop-header
invariant-loop-header l = record {
  none : All (λ h. ¬ (IsRival l.headers l.best h)) (take l.header-index l.headers);
  right : IsRightCount l.headers l.last;
}
