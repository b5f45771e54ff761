use Rattle.math_poly.proofs.poly.algebra.fn.PolySpace.scale_assign.translate.Goals as goal

pub returns : goal.returns
returns g c = g.met.K.Object.equality.transitive _ _ _ c.in_ok-scaled.ensures.ok (g.met.K.Space.spans.respects_points _ _ _ c.in_ok-copy.ensures.ok)
