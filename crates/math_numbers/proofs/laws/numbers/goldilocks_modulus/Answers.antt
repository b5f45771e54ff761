use Rattle.math_numbers.proofs.GoldilocksPrime.{goldilocks_prime, order_of_seven}
use Rattle.math_numbers.proofs.laws.numbers.goldilocks_modulus.Goals as goal

pub returns-clause-prime : goal.returns-clause-prime
returns-clause-prime c = goldilocks_prime

pub returns-clause-order : goal.returns-clause-order
returns-clause-order c = order_of_seven
