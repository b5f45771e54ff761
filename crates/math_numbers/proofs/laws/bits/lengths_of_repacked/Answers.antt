use Rattle.math_numbers.proofs.BitPieces.{length-repacked, piece_count-enough, piece_count-least}
use Rattle.math_numbers.proofs.laws.bits.lengths_of_repacked.Goals as goal

pub returns-clause-length : goal.returns-clause-length
returns-clause-length c = length-repacked

pub returns-clause-enough : goal.returns-clause-enough
returns-clause-enough c = piece_count-enough

pub returns-clause-least : goal.returns-clause-least
returns-clause-least c = piece_count-least
