use Rattle.math_numbers.proofs.BitPieces.{words_come_back}
use Rattle.math_numbers.proofs.laws.bits.words_there_and_back.Goals as goal

pub returns : goal.returns
returns c = words_come_back
