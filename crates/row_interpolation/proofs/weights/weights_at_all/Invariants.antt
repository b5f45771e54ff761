use Rattle.std.proofs.Common.{ℕ, List}
use Rattle.row_interpolation.specs.Weights.{ArePointsOf, AreWanted, AreWeightRows}
use Rattle.row_interpolation.proofs.weights.weights_at_all.Given as goal

-- the rows of weights so far
abbrev pub invariant-loop-j : goal.invariant-loop-j
invariant-loop-j l = (total : ℕ) (indices : List ℕ) → ArePointsOf total l.fn.lg indices l.points l.own → AreWanted total indices l.wanted → AreWeightRows total indices l.wanted l.j l.out.items
