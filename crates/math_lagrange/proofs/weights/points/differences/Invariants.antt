use Rattle.std.proofs.Common.{get_or}
use Rattle.math_lagrange.proofs.RootWeightSteps.{ItemsSoFar}
use Rattle.math_lagrange.proofs.weights.points.differences.Given as goal

-- the differences so far
abbrev pub invariant-loop-point : goal.invariant-loop-point
invariant-loop-point g l =
    let zero = g.F.Additive.zero in
    ItemsSoFar zero (λ k item. g.F.Object.same item (g.F.Multiplicative.product l.factor (g.F.Additive.sum l.x (g.F.Additive.negative (get_or l.points k zero))))) l.out.items l.point-index
