use Rattle.math_theory.proofs.polynomials.Values.{value-cons}
use Rattle.math_theory.proofs.laws.values.horners_rule.Goals as goal

pub returns : goal.returns
returns g c = λ R. value-cons R
