use Rattle.std.proofs.Common.{◌≡◌, take}
use Rattle.std.specs.List.{count_by}
use Rattle.shard_format.proofs.indices.count_set.Given as goal

-- how many of the marks so far are set
abbrev pub invariant-loop-mark : goal.invariant-loop-mark
invariant-loop-mark l = l.count ≡ count_by (λ mark. mark) (take l.mark-index l.marks)
