use Rattle.std.proofs.Common.{◌≡◌, ◌∙◌, ◌*◌, arith}
use Rattle.math_shards.proofs.PutCoefficients.{written-back}
use Rattle.math_shards.proofs.WeighedRows.{values_of_weighed}
use Rattle.math_shards.proofs.shards.weighing.put_weighed.Goals as goal

pub returns : goal.returns
returns c = grind (arith, written-back, values_of_weighed)
