use Rattle.std.proofs.Common.{arith}
use Rattle.math_transforms.proofs.TrimmedCoefficients.{value-trimmed}
use Rattle.math_transforms.proofs.vanishing.trim.Goals as goal

pub returns-clause-values : goal.returns-clause-values
returns-clause-values g c = grind (arith, value-trimmed)
