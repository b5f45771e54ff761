use Rattle.commonware_math.proofs.InterpolatorLaws.{interpolates_at_powers-respects}
use Rattle.commonware_math.proofs.poly.interpolation.Interpolator.roots_of_unity.Goals as goal

pub returns-clause-weights : goal.returns-clause-weights
returns-clause-weights g c = λ lg h.
    let F = g.met.F in
    interpolates_at_powers-respects _ F.Object.equality F.Additive.group F.Multiplicative.commutes F.Ring.ring g.I.Ord.cmp _ c.in_ok-zero.zero g.F.Additive.zero c.in_ok-zero.ensures.ok _
    c.in_ok-out.out (c.in_ok-out.ensures.weights lg h)
