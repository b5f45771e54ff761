use Rattle.std.proofs.Common.{◌≡◌, ℕ, ◌*◌, ◌≤◌, get_or}
use Rattle.math_restoring.specs.Restored.{AreTaken}
use Rattle.math_restoring.proofs.CombinedColumns.{nought}
use Rattle.math_restoring.proofs.restoring.take_rows.Given as goal

-- the rows so far are taken, and the others are as they were
abbrev pub invariant-loop-r : goal.invariant-loop-r
invariant-loop-r l = record {
  taken : AreTaken l.width l.from l.cols l.r l.room l.initial.cells l.cells;
  left : (p : ℕ) → l.r * l.width ≤ p → get_or l.cells p nought ≡ get_or l.initial.cells p nought;
}
