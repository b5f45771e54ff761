use Rattle.math_numbers.proofs.BitLists.{length-bits, number-bits}
use Rattle.math_numbers.proofs.laws.bits.bits_of_numbers.Goals as goal

pub returns-clause-length : goal.returns-clause-length
returns-clause-length c = length-bits

pub returns-clause-number : goal.returns-clause-number
returns-clause-number c = number-bits
