use Rattle.row_interpolation.specs.Sums.{AreGathered}
use Rattle.row_interpolation.proofs.by_weights.gather_columns.Given as goal

-- the elements of the rows so far
abbrev pub invariant-loop-t : goal.invariant-loop-t
invariant-loop-t g l = AreGathered (g.R.ElementRows.element l.rows) l.count l.from l.cols l.t l.columns
