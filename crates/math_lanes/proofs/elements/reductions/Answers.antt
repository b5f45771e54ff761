use Rattle.std.proofs.Common.{◌<◌, lit<, subst, sym}
use Rattle.std.proofs.Math.Nat.{mod-lt}
use Rattle.std.specs.Simd.Lanes.{Each1}
use Rattle.math_numbers.specs.Goldilocks.{P}
use Rattle.math_lanes.specs.Elements.{reduced}
use Rattle.math_lanes.proofs.LaneLists.{all_below, reduction_lanes}
use Rattle.math_lanes.proofs.elements.reductions.Goals as goal

pub returns-clause-lanes : goal.returns-clause-lanes
returns-clause-lanes g c = simp (c.sums_of_words.ensures, c.differences_of_words.ensures, c.lower_halves.ensures, c.upper_halves.ensures)
    (reduction_lanes g.row.N c.args.low c.args.high c.fits-low.0 c.fits-high.0 c.fits-low.1 c.fits-high.1)

pub returns-clause-elements : goal.returns-clause-elements
returns-clause-elements g c = subst (Each1 (λ x. x < P)) (sym (returns-clause-lanes g c)) (all_below reduced (λ x y. mod-lt _ (lit< tt)) c.args.low c.args.high)
