use Rattle.math_numbers.specs.Bits.{bits-zero}
use Rattle.math_fields.proofs.goldilocks.packing.WaitingBits.none.Goals as goal

pub returns-clause-bits : goal.returns-clause-bits
returns-clause-bits c = bits-zero 0
