use Rattle.std.proofs.Common.{◌∙◌}
use Rattle.math_theory.proofs.polynomials.Values.{value-at_zero}
use Rattle.math_theory.proofs.laws.interpolation.weights_at_zero.Goals as goal

pub returns : goal.returns
returns g c = λ R points weights p W l. W.give p l ∙ value-at_zero R p
