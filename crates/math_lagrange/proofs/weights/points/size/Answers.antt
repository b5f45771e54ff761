use Rattle.math_theory.specs.Powers.{power-zero}
use Rattle.math_lagrange.proofs.RootWeightSteps.{doubled-next}
use Rattle.math_lagrange.proofs.weights.points.size.Goals as goal

pub loop-done-init : goal.loop-done-init
loop-done-init g c = rw power-zero c.in_ok-out.ensures.ok

pub loop-done-preserved : goal.loop-done-preserved
loop-done-preserved g c =
    let F = g.met.F in
    doubled-next F.Object.equality F.Additive.group F.Multiplicative.commutes F.Ring.ring _ _ c.loop-done._done c.loop-done.invariant c.in_ok-double.ensures.ok
