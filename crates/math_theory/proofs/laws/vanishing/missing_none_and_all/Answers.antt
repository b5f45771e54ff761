use Rattle.math_theory.proofs.domains.MissingProducts.{missing_product-none, missing_product-whole}
use Rattle.math_theory.proofs.laws.vanishing.missing_none_and_all.Goals as goal

pub returns-clause-none : goal.returns-clause-none
returns-clause-none c st = λ R. missing_product-none R

pub returns-clause-all : goal.returns-clause-all
returns-clause-all c st = λ R. missing_product-whole R
