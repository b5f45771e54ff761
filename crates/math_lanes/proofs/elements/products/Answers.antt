use Rattle.std.proofs.Common.{◌<◌, lit<, subst, sym}
use Rattle.std.proofs.Math.Nat.{mod-lt}
use Rattle.std.specs.Simd.Lanes.{Each1}
use Rattle.math_numbers.specs.Goldilocks.{P}
use Rattle.math_lanes.specs.Elements.{product}
use Rattle.math_lanes.proofs.LaneLists.{all_below, product_lanes}
use Rattle.math_lanes.proofs.elements.products.Goals as goal

pub returns-clause-lanes : goal.returns-clause-lanes
returns-clause-lanes g c = simp (c.reductions.ensures.lanes, c.raised_halves.ensures, c.lower_halves-2.ensures, c.upper_halves-3.ensures, c.upper_halves-2.ensures, c.lower_halves.ensures, c.upper_halves.ensures, c.upper_halves-b_high.ensures, c.lower_halves-b_low.ensures, c.upper_halves-a_high.ensures, c.lower_halves-a_low.ensures)
    (product_lanes g.row.N c.args.a c.args.b c.fits-a.0 c.fits-b.0 c.fits-a.1 c.fits-b.1)

pub returns-clause-elements : goal.returns-clause-elements
returns-clause-elements g c = subst (Each1 (λ x. x < P)) (sym (returns-clause-lanes g c)) (all_below product (λ x y. mod-lt _ (lit< tt)) c.args.a c.args.b)
