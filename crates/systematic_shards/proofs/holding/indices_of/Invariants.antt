use Rattle.std.proofs.Common.{◌≡◌, map, take}
use Rattle.systematic_shards.proofs.holding.indices_of.Given as goal

-- the indices of the rows so far
abbrev pub invariant-loop-row : goal.invariant-loop-row
invariant-loop-row g l = l.out.items ≡ map (λ row. row.index) (take l.row-index l.rows)
