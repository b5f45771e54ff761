use Rattle.math_numbers.proofs.Primes.{proth}
use Rattle.math_numbers.proofs.laws.numbers.proth_test.Goals as goal

pub returns : goal.returns
returns c = proth
