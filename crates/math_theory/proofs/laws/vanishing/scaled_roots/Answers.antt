use Rattle.math_theory.proofs.domains.RootProductLists.{root_product-scaled}
use Rattle.math_theory.proofs.laws.vanishing.scaled_roots.Goals as goal

pub returns : goal.returns
returns c st = λ R. root_product-scaled R
