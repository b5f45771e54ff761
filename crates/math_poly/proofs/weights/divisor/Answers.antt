use Rattle.std.proofs.Common.{◌≡◌, add-one, get_or}
use Rattle.std.proofs.lemmas.List.{get_or_read, take_rest}
use Rattle.math_theory.proofs.interpolation.DifferenceProducts.{divisor-joined}
use Rattle.math_poly.proofs.weights.divisor.Goals as goal

pub returns : goal.returns
returns g c =
    let R = g.met.R in
    let point : c.index-points-i.result ≡ get_or c.args.points.now c.args.i g.R.Additive.zero = get_or_read c.args.points.now c.args.i c.index-points-i.result c.requires c.index-points-i.is
    g.R.Additive.zero in
    divisor-joined R.Object.equality R.Additive.group R.Multiplicative.commutes R.Ring.ring c.args.x.now c.index-points-i.result c.args.x.now c.in_ok-difference.difference c.in_ok-front.front
    c.in_ok-out.out c.args.points.now c.args.i point (R.Object.equality.reflexive c.args.x.now) c.in_ok-difference.ensures c.in_ok-front.ensures (rw (add-one, take_rest) at c.in_ok-out.ensures)
