use Rattle.math_restoring.proofs.FilledPoints.{AreFilledBefore}
use Rattle.math_restoring.proofs.restoring.points_of.Given as goal

-- the points of the indices so far are filled
abbrev pub invariant-loop-t : goal.invariant-loop-t
invariant-loop-t l = AreFilledBefore l.lg l.indices l.t l.points
