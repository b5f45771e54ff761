use Rattle.math_poly.specs.PolynomialLaws.{coefficients_equality, polynomials_group}
use Rattle.math_poly.proofs.poly.algebra.PolyAdditive.sub_assign.Goals as goal

pub returns-clause-ok : goal.returns-clause-ok
returns-clause-ok g c =
    let Q = coefficients_equality g.K.Additive.zero g.met.K.Object.equality in
    let P = polynomials_group g.met.K.Object.equality g.met.K.Additive.group in
    Q.transitive _ _ _ c.in_ok-self.ensures.ok (P.respects_sum _ _ _ _ (Q.reflexive c.args.self.now) c.in_ok-negative.ensures.ok)
