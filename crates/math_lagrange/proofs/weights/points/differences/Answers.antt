use Rattle.math_lagrange.proofs.RootWeightSteps.{items-push, factored-difference}
use Rattle.math_lagrange.proofs.weights.points.differences.Goals as goal

pub loop-point-preserved : goal.loop-point-preserved
loop-point-preserved g c =
    let F = g.met.F in
    items-push _ _ c.loop-point.out.items c.push.new.self.items c.loop-point.point-index c.mul_assign.new.self c.loop-point.invariant
    (factored-difference F.Object.equality F.Additive.group F.Multiplicative.commutes F.Ring.ring c.args.x.now c.args.factor.now c.in_ok-clone.field-0 c.in_ok-difference.difference
    c.in_ok-item.item c.mul_assign.new.self
    c.args.points.now c.loop-point.point-index c.point-item.result c.loop-point-test.true c.point-item.is c.in_ok-clone.ensures.ok c.in_ok-difference.ensures.ok c.in_ok-item.ensures.ok
    c.in_ok-mul_assign.ensures.ok)
    c.in_ok-push.ensures.items
