use Rattle.math_theory.proofs.domains.MissingProducts.{IsVanishing-from_VanishesAt, IsVanishing-zero}
use Rattle.math_theory.proofs.laws.vanishing.vanishing_values.Goals as goal

pub returns-clause-values : goal.returns-clause-values
returns-clause-values c st = λ R. IsVanishing-from_VanishesAt R

pub returns-clause-zero : goal.returns-clause-zero
returns-clause-zero c st = λ F. IsVanishing-zero F
