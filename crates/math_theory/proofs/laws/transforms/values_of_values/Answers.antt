use Rattle.math_theory.proofs.transforms.TransformInverse.{values-of_values}
use Rattle.math_theory.proofs.laws.transforms.values_of_values.Goals as goal

pub returns : goal.returns
returns c st = λ R. values-of_values R
