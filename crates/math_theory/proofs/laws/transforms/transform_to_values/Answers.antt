use Rattle.math_theory.proofs.transforms.TransformValues.{transform-values}
use Rattle.math_theory.proofs.laws.transforms.transform_to_values.Goals as goal

pub returns : goal.returns
returns c st = λ R. transform-values R
