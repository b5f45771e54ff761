use Rattle.commonware_math.proofs.InterpolatorLaws.{keyed-weights}
use Rattle.commonware_math.proofs.poly.interpolation.Interpolator.at.Goals as goal

pub returns : goal.returns
returns g c =
    let made = c.in_ok-points.ensures in
    let weights = c.in_ok-weights.ensures in (
      made.0,
      made.1,
      made.2,
      made.3,
      keyed-weights g.I.Ord.cmp _ c.args.x.now made.1 c.in_ok-points.points c.with_values-weights.result c.values.result.now c.in_ok-weights.weights.items c.values.ensures made.4
          c.with_values-weights.ensures
          (record { count = weights.count; at_point = weights.at_point; repeated = weights.repeated; give = weights.weights; only = weights.only }),
    )
