use Rattle.std.proofs.Common.{◌≡◌, arith}
use Rattle.math_lagrange.proofs.RootWeightSteps.{squared-next, squared-none}
use Rattle.math_lagrange.proofs.weights.points.power_minus_one.Goals as goal

pub loop-done-init : goal.loop-done-init
loop-done-init g c =
    let F = g.met.F in
    squared-none F.Object.equality F.Additive.group F.Multiplicative.commutes F.Ring.ring c.args.x.now _ c.in_ok-out.ensures.ok

pub loop-done-preserved : goal.loop-done-preserved
loop-done-preserved g c =
    let F = g.met.F in
    squared-next F.Object.equality F.Additive.group F.Multiplicative.commutes F.Ring.ring c.args.x.now _ _ c.loop-done._done c.loop-done.invariant c.in_ok-square.ensures.ok

pub returns : goal.returns
returns g c =
    let F = g.met.F in
    let E = F.Object.equality in
    let G = F.Additive.group in
    let e : c.loop-done._done ≡ c.args.lg = omega arith in
    rw (← e)
    (E.transitive _ _ _ c.in_ok-sub_assign.ensures.ok (G.respects_sum _ _ _ _ c.loop-done.invariant (G.respects_negative _ _ c.in_ok-one.ensures.ok)))
