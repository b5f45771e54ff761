use Rattle.math_poly.proofs.poly.algebra.fn.negative_of.translate.Goals as goal

pub returns : goal.returns
returns g c = g.met.K.Object.equality.transitive _ _ _ c.in_ok-negative.ensures.ok (g.met.K.Additive.group.respects_negative _ _ c.in_ok-copy.ensures.ok)
