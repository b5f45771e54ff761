use Rattle.std.proofs.Common.{arith, ◌∙◌}
use Rattle.math_transforms.proofs.columns.value_at.Goals as goal

pub returns : goal.returns
returns g c = grind arith
