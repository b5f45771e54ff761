use Rattle.std.proofs.Common.{◌≡◌, ◌-◌, ◌≤◌, length}
use Rattle.math_splitting.specs.DataWords.{words_in}
use Rattle.math_splitting.specs.ShardRows.{HaveColumns, indices_in}
use Rattle.math_splitting.proofs.shards.few_points.write_strips.Given as goal

-- the columns so far
abbrev pub invariant-loop-from : goal.invariant-loop-from
invariant-loop-from g l = record {
  within : l.from ≤ l.layout.width;
  size : length (g.R.Room.words l.cells) ≡ length (g.R.Room.words l.initial.cells);
  columns : HaveColumns (words_in g.W.Word.word l.source) l.layout.min l.layout.lg l.layout.width (indices_in l.wanted) l.from (g.R.Room.words l.cells);
}

abbrev pub decreases-loop-from : goal.decreases-loop-from
decreases-loop-from g l = l.layout.width - l.from
