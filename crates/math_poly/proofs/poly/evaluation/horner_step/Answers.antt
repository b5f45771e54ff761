use Rattle.math_poly.proofs.poly.evaluation.horner_step.Goals as goal

pub returns-clause-ok : goal.returns-clause-ok
returns-clause-ok g c =
    let K = g.met.K in
    K.Object.equality.transitive _ _ _ c.in_ok-add_assign.ensures.ok (K.Additive.group.respects_sum _ _ _ _ c.in_ok-scale_assign.ensures.ok (K.Object.equality.reflexive _))
