use Rattle.std.proofs.Common.{ℕ, ◌-◌, ◌<◌, ◌≤◌}
use Rattle.systematic_shards.specs.Shards.{IsElementIn}
use Rattle.systematic_shards.proofs.rows.has_elements.Given as goal

-- the words so far are those of elements
abbrev pub invariant-loop-from : goal.invariant-loop-from
invariant-loop-from g l = record {
  within : l.from ≤ l.code.split.width;
  elements : (i : ℕ) → i < l.from → IsElementIn l.code.split.min l.code.mask l.row.index (g.M.WordMemory.word l.row.cells.now i);
}

abbrev pub decreases-loop-from : goal.decreases-loop-from
decreases-loop-from g l = l.code.split.width - l.from
