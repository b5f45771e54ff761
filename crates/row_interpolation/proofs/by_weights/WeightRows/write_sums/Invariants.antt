use Rattle.row_interpolation.specs.Sums.{AreSums}
use Rattle.row_interpolation.proofs.by_weights.WeightRows.write_sums.Given as goal

-- the sums of the targets so far
abbrev pub invariant-loop-j : goal.invariant-loop-j
invariant-loop-j l = AreSums l.self.count l.cols l.columns l.self.weights.items l.j l.out
