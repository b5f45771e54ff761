use Rattle.std.proofs.Common.{rules}
use Rattle.math_poly.proofs.Coefficientwise.{same_as_map}
use Rattle.math_poly.proofs.poly.algebra.PolySpace.scale_assign.Goals as goal

pub returns-clause-ok : goal.returns-clause-ok
returns-clause-ok g c =
    same_as_map g.K.Additive.zero g.met.K.Object.equality (λ a. g.K.Space.scaling a c.args.r.now) (λ a b k. search rules) _ _ c.in_ok-scaled.ensures.each
