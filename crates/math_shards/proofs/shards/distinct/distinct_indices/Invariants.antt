use Rattle.std.proofs.Common.{◌≡◌, map, take}
use Rattle.math_shards.proofs.shards.distinct.distinct_indices.Given as goal

-- the indices of the rows so far
abbrev pub invariant-loop-row : goal.invariant-loop-row
invariant-loop-row g l = l.indices.items ≡ map g.R.Row.index (take l.row-index l.rows)
