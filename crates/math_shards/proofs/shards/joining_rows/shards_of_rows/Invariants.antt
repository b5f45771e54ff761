use Rattle.std.proofs.Common.{map}
use Rattle.math_shards.proofs.WordShards.{AreSoFar}
use Rattle.math_shards.proofs.shards.joining_rows.shards_of_rows.Given as goal

-- the shards of the rows so far
abbrev pub invariant-loop-i : goal.invariant-loop-i
invariant-loop-i g l = AreSoFar l.min l.total l.indices (map g.C.Cell.number l.cells) l.cols l.i l.out.items
