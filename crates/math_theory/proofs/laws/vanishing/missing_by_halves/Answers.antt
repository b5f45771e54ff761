use Rattle.math_theory.proofs.domains.MissingProducts.{missing_product-halves, missing_product-scaled_halves}
use Rattle.math_theory.proofs.laws.vanishing.missing_by_halves.Goals as goal

pub returns-clause-points : goal.returns-clause-points
returns-clause-points c st = λ R. missing_product-halves R

pub returns-clause-scaled : goal.returns-clause-scaled
returns-clause-scaled c st = λ R. missing_product-scaled_halves R
