use Rattle.std.proofs.Common.{rules}
use Rattle.math_poly.proofs.Coefficientwise.{same_as_map}
use Rattle.math_poly.proofs.poly.algebra.negative_of.Goals as goal

pub returns-clause-ok : goal.returns-clause-ok
returns-clause-ok g c =
    same_as_map g.K.Additive.zero g.met.K.Object.equality g.K.Additive.negative (λ a b k. search rules) _ _ c.in_ok-negative.ensures.each
