use Rattle.std.proofs.Common.{sym}
use Rattle.math_transforms.proofs.SixteenRows.{opposite-four}
use Rattle.math_transforms.proofs.transform.order.opposite_of_four.Goals as goal

pub returns : goal.returns
returns c = sym (opposite-four c.args.t c.requires)
