use Rattle.math_theory.proofs.transforms.EvenOddItems.{value-halves}
use Rattle.math_theory.proofs.laws.transforms.value_by_halves.Goals as goal

pub returns : goal.returns
returns c st = λ R. value-halves R
