use Rattle.std.proofs.Common.{ℕ, ◌<◌, get_or}
use Rattle.systematic_shards.specs.declared.rows.Row.{Row}
use Rattle.systematic_shards.specs.Refusals.{IsSound}
use Rattle.systematic_shards.proofs.rows.check_rows.Given as goal

-- the rows so far are sound
abbrev pub invariant-loop-row : goal.invariant-loop-row
invariant-loop-row g l = (k : ℕ) (d : Row g.row.M.Denot) → k < l.row-index → IsSound g.M.WordMemory.BYTES l.split (get_or l.rows k d)
