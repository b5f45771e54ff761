use Rattle.std.proofs.Common.{take}
use Rattle.shard_format.proofs.MarkedIndices.{AreMarks}
use Rattle.shard_format.proofs.indices.count_distinct.Given as goal

-- the indices so far are marked
abbrev pub invariant-loop-index : goal.invariant-loop-index
invariant-loop-index l = AreMarks l.fn.total (take l.index-index l.indices) l.marks.items
