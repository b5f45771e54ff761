use Rattle.math_theory.proofs.polynomials.Horner.{value_over-at_zero}
use Rattle.math_base.proofs.laws.polynomials.value_at_zero.Goals as goal

pub returns : goal.returns
returns g c = let K = g.met.K in value_over-at_zero K.Object.equality K.Additive.group K.Space.spans
