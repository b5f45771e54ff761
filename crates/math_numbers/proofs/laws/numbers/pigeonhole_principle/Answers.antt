use Rattle.math_numbers.proofs.Pigeonhole.{pigeonhole}
use Rattle.math_numbers.proofs.laws.numbers.pigeonhole_principle.Goals as goal

pub returns : goal.returns
returns c = pigeonhole
