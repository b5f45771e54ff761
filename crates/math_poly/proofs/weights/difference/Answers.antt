use Rattle.math_poly.proofs.weights.difference.Goals as goal

pub returns : goal.returns
returns g c =
    let R = g.met.R in
    R.Object.equality.transitive _ _ _ c.in_ok-sub_assign.ensures.ok
    (R.Additive.group.respects_sum _ _ _ _ c.in_ok-out.ensures.ok (R.Object.equality.reflexive (g.R.Additive.negative c.args.x.now)))
