use Rattle.std.proofs.Common.{◌≡◌, ℕ, ◌*◌, ◌≤◌, get_or, length}
use Rattle.math_transforms.specs.DomainValues.{matrix_of}
use Rattle.math_splitting.specs.ShardRows.{AreColumnsWritten, indices_in, value_element}
use Rattle.math_splitting.proofs.shards.few_points.write_values_of.Given as goal

-- the rows so far are written in these columns, and the others are as they were
abbrev pub invariant-loop-t : goal.invariant-loop-t
invariant-loop-t g l = record {
  size : length (g.R.Room.words l.cells) ≡ length (g.R.Room.words l.initial.cells);
  columns : AreColumnsWritten l.strip.layout.width l.strip.from l.strip.cols l.t
      (value_element (indices_in l.wanted) l.strip.layout.lg (matrix_of l.strip.layout.min l.strip.cols l.rows)) (g.R.Room.words l.initial.cells) (g.R.Room.words l.cells);
  left : (p : ℕ) → l.t * l.strip.layout.width ≤ p → get_or (g.R.Room.words l.cells) p 0 ≡ get_or (g.R.Room.words l.initial.cells) p 0;
}
