use Rattle.math_theory.proofs.polynomials.Values.{value-sum, value-negative, value-difference}
use Rattle.math_theory.proofs.laws.values.values_of_sums.Goals as goal

pub returns-clause-sum : goal.returns-clause-sum
returns-clause-sum g c = λ R. value-sum R

pub returns-clause-negative : goal.returns-clause-negative
returns-clause-negative g c = λ R. value-negative R

pub returns-clause-difference : goal.returns-clause-difference
returns-clause-difference g c = λ R. value-difference R
