use Rattle.std.proofs.Common.{rules}
use Rattle.math_poly.proofs.Coefficientwise.{same_as_map, sum_with_itself}
use Rattle.math_poly.proofs.poly.algebra.PolyAdditive.double.Goals as goal

pub returns-clause-ok : goal.returns-clause-ok
returns-clause-ok g c =
    let sum = g.K.Additive.sum in
    rw (sum_with_itself sum c.args.self.now) (same_as_map g.K.Additive.zero g.met.K.Object.equality (λ a. sum a a) (λ a b k. search rules) _ _ c.in_ok-twice.ensures.each)
