use Rattle.math_theory.proofs.transforms.TransformInverse.{inverse_transform-transform, transform-inverse_transform}
use Rattle.math_theory.proofs.laws.transforms.transform_and_back.Goals as goal

pub returns-clause-undone : goal.returns-clause-undone
returns-clause-undone c st = λ R. inverse_transform-transform R

pub returns-clause-redone : goal.returns-clause-redone
returns-clause-redone c st = λ R. transform-inverse_transform R
