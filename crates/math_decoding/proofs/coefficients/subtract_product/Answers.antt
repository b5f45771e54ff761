use Rattle.math_decoding.proofs.coefficients.subtract_product.Goals as goal

pub returns : goal.returns
returns g c =
    let F = g.met.F in
    let E = F.Object.equality in
    let product = E.transitive _ _ _ c.in_ok-mul_assign.ensures.ok (F.Multiplicative.commutes.respects _ _ _ _ c.in_ok-product.ensures.ok (E.reflexive c.args.b.now)) in
    E.transitive _ _ _ c.in_ok-sub_assign.ensures.ok (F.Additive.group.respects_sum _ _ _ _ (E.reflexive c.args.x.now) (F.Additive.group.respects_negative _ _ product))
