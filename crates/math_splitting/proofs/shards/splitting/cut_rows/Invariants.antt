use Rattle.math_splitting.specs.ShardRows.{AreCut, indices_in}
use Rattle.math_splitting.proofs.shards.splitting.cut_rows.Given as goal

-- the shards of the first rows
abbrev pub invariant-loop-t : goal.invariant-loop-t
invariant-loop-t l = AreCut l.layout.min l.layout.total l.layout.width (indices_in l.wanted) l.cells l.t l.shards.items
