use Rattle.std.proofs.Common.{◌≡◌, min, length}
use Rattle.commonware_math.specs.Synthetics.{combination_zero, combination_sum, combination_multiple}
use Rattle.commonware_math.proofs.WeightedCombinations.{weighted_sum-shorter, take_shorter}
use Rattle.commonware_math.proofs.synthetic.algebra.SyntheticSpace.msm.Goals as goal

pub returns-clause-ok : goal.returns-clause-ok
returns-clause-ok g c =
    let count : c.min-count.result ≡ min (length c.args.points.now) (length c.args.scalars.now) = c.min-count.ensures in
    rw (weighted_sum-shorter (combination_zero g.G.Additive.zero) (combination_sum g.G.Additive.sum) (combination_multiple g.F.Multiplicative.product g.G.Space.scaling)
    c.args.points.now c.args.scalars.now _ count)
    at c.in_ok-out.ensures.ok

pub returns-clause-indices : goal.returns-clause-indices
returns-clause-indices g c = rw (take_shorter c.args.points.now c.args.scalars.now _ c.min-count.ensures) at c.in_ok-out.ensures.indices
