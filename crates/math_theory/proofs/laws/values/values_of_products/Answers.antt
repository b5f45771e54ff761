use Rattle.math_theory.proofs.polynomials.Values.{value-product, value-multiple}
use Rattle.math_theory.proofs.laws.values.values_of_products.Goals as goal

pub returns-clause-product : goal.returns-clause-product
returns-clause-product g c = λ R. value-product R

pub returns-clause-multiple : goal.returns-clause-multiple
returns-clause-multiple g c = λ R. value-multiple R
