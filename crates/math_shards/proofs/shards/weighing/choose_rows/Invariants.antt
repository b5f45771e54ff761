use Rattle.std.proofs.Common.{◌<◌, ◌≤◌, ◌^◌, length, take}
use Rattle.std.specs.List.{All, Contains}
use Rattle.math_shards.specs.Weights.{AreChosen}
use Rattle.math_shards.proofs.ChosenRows.{AreMarked}
use Rattle.math_shards.proofs.shards.weighing.choose_rows.Given as goal

-- at most `min` of the rows so far are chosen, and their points marked
abbrev pub invariant-loop-row : goal.invariant-loop-row
invariant-loop-row g l = record {
  few : length l.indices.items ≤ l.min;
  marked : AreMarked (2 ^ l.fn.layout.lg) l.indices.items l.points;
  rows : AreChosen g.R.Row.index g.R.Row.cells (take l.row-index l.rows) l.indices.items l.cells.items;
  all : length l.indices.items < l.min → All (λ row. Contains l.indices.items (g.R.Row.index row)) (take l.row-index l.rows);
}
