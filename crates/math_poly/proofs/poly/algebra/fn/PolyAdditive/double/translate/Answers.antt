use Rattle.math_poly.proofs.poly.algebra.fn.PolyAdditive.double.translate.Goals as goal

pub returns : goal.returns
returns g c = g.met.K.Object.equality.transitive _ _ _ c.in_ok-double.ensures.ok (g.met.K.Additive.group.respects_sum _ _ _ _ c.in_ok-out.ensures.ok c.in_ok-out.ensures.ok)
