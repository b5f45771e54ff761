use Rattle.std.proofs.Common.{rules}
use Rattle.math_theory.proofs.polynomials.BuiltPolynomials.{value-zeros_after, value-of_one}
use Rattle.math_transforms.proofs.vanishing.constant_one.Goals as goal

pub returns-clause-values : goal.returns-clause-values
returns-clause-values g c = λ r.
    let F = g.met.F in
    let E = F.Object.equality in
    let G = F.Additive.group in
    let P = F.Multiplicative.commutes in
    let one = c.push.new.self.items in
    let filled = c.in_ok-all.ensures.cells in
    rw filled.1
    (E.transitive _ _ _ (value-zeros_after E G P F.Ring.ring r one filled.0 filled.2) (value-of_one E G P F.Ring.ring r c.in_ok-one.field-0 one (search rules) c.in_ok-one.ensures.ok))
