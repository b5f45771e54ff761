use Rattle.math_numbers.proofs.BitPieces.{joined-cut, cut-of_joined}
use Rattle.math_numbers.proofs.laws.bits.cut_and_joined.Goals as goal

pub returns-clause-joined : goal.returns-clause-joined
returns-clause-joined c = joined-cut

pub returns-clause-cut : goal.returns-clause-cut
returns-clause-cut c = cut-of_joined
