use Rattle.std.proofs.Common.{rules}
use Rattle.math_theory.specs.Coefficients.{coefficient}
use Rattle.math_poly.proofs.PlaceByPlace.{AllZip-weaker}
use Rattle.math_poly.proofs.poly.algebra.coefficients_at.Goals as goal

pub returns : goal.returns
returns g c = AllZip-weaker _ (λ p a. g.K.Object.same a (coefficient g.K.Additive.zero p c.args.i)) (λ p a k. search rules) _ _ c.in_ok-column.ensures.each
