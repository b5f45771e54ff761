use Rattle.commonware_math.proofs.InterpolatorLaws.{interpolates-respects}
use Rattle.commonware_math.proofs.poly.interpolation.Interpolator.new.Goals as goal

pub returns : goal.returns
returns g c =
    let F = g.met.F in
    let made = c.in_ok-out.ensures in (
      made.0,
      made.1,
      made.2,
      made.3,
      interpolates-respects _ F.Object.equality F.Additive.group F.Multiplicative.commutes F.Ring.ring g.I.Ord.cmp c.in_ok-zero.zero g.F.Additive.zero c.in_ok-zero.ensures.ok made.1 c.in_ok-out.out
          made.4,
    )
