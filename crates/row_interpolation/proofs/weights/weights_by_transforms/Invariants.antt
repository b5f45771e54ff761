use Rattle.row_interpolation.specs.Weights.{AreWeightRows}
use Rattle.row_interpolation.proofs.weights.weights_by_transforms.Given as goal

-- the rows of weights so far
abbrev pub invariant-loop-j : goal.invariant-loop-j
invariant-loop-j l = AreWeightRows l.total l.indices l.wanted l.j l.out.items
