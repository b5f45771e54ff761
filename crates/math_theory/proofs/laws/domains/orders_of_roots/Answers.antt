use Rattle.math_theory.proofs.domains.RootOrders.{HasExactOrder-of_principal, IsPrincipalRoot-of_order, IsPrincipalRoot-by_squares}
use Rattle.math_theory.proofs.laws.domains.orders_of_roots.Goals as goal

pub returns-clause-exact : goal.returns-clause-exact
returns-clause-exact c st = λ R. HasExactOrder-of_principal R

pub returns-clause-principal : goal.returns-clause-principal
returns-clause-principal c st = λ F. IsPrincipalRoot-of_order F

pub returns-clause-squares : goal.returns-clause-squares
returns-clause-squares c st = λ R. IsPrincipalRoot-by_squares R
