use Rattle.row_interpolation.specs.Sums.{AreRead}
use Rattle.row_interpolation.proofs.by_weights.read_rows.Given as goal

-- the elements of the rows so far
abbrev pub invariant-loop-t : goal.invariant-loop-t
invariant-loop-t g l = AreRead (g.R.ElementRows.element l.rows) l.from l.cols l.t l.strip
