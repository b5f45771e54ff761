use Rattle.math_theory.proofs.polynomials.Values.{value-dilation}
use Rattle.math_theory.proofs.laws.values.values_of_dilations.Goals as goal

pub returns : goal.returns
returns g c = λ R. value-dilation R
