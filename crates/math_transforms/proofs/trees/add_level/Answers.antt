use Rattle.std.proofs.Common.{arith}
use Rattle.math_transforms.proofs.trees.add_level.Goals as goal

pub returns : goal.returns
returns g c = grind arith
