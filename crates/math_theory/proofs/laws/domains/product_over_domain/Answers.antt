use Rattle.math_theory.proofs.domains.RootProductLists.{root_product-powers}
use Rattle.math_theory.proofs.domains.RootOrders.{IsPrincipalRoot-of_order}
use Rattle.math_theory.proofs.laws.domains.product_over_domain.Goals as goal

pub returns-clause-principal : goal.returns-clause-principal
returns-clause-principal c st = λ R. root_product-powers R

pub returns-clause-exact : goal.returns-clause-exact
returns-clause-exact c st = λ F lg r w o. root_product-powers F.ring lg r w (IsPrincipalRoot-of_order F lg w o)
