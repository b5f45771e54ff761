use Rattle.std.proofs.Common.{◌≡◌, ◌∙◌, ◌*◌, arith}
use Rattle.math_splitting.proofs.StripSizes.{cells_fit}
use Rattle.math_splitting.proofs.shards.strips.layout_of.Goals as goal

pub returns-clause-layout : goal.returns-clause-layout
returns-clause-layout g c = grind (arith, cells_fit)
