use Rattle.row_interpolation.specs.Sums.{AreRowSums}
use Rattle.row_interpolation.proofs.by_weights.WeightRows.write_row_sums.Given as goal

-- the sums of the targets so far
abbrev pub invariant-loop-j : goal.invariant-loop-j
invariant-loop-j l = AreRowSums l.self.count l.cols l.rows l.self.weights.items l.j l.out
