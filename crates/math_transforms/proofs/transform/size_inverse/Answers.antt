use Rattle.math_transforms.proofs.ScaledCells.{halved-none, halved-more}
use Rattle.math_transforms.proofs.transform.size_inverse.Goals as goal

pub loop-done-init : goal.loop-done-init
loop-done-init g c = let F = g.met.F in halved-none F.Object.equality F.Additive.group F.Multiplicative.commutes F.Ring.ring _ c.in_ok-out.ensures.ok

pub loop-done-preserved : goal.loop-done-preserved
loop-done-preserved g c =
    let F = g.met.F in
    halved-more F.Object.equality F.Additive.group F.Multiplicative.commutes F.Ring.ring _ F.FieldNTT.roots.half_twice _ _ _ c.in_ok-out-2.ensures.ok c.loop-done.invariant
