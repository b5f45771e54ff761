use Rattle.math_theory.proofs.transforms.TransformInverse.{values-inverse_transform}
use Rattle.math_theory.proofs.laws.transforms.values_to_coefficients.Goals as goal

pub returns : goal.returns
returns c st = λ R. values-inverse_transform R
