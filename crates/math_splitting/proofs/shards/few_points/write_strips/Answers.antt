use Rattle.std.proofs.Common.{◌∙◌, arith}
use Rattle.math_splitting.proofs.WrittenColumns.{columns_further, product_values}
use Rattle.math_splitting.proofs.shards.few_points.write_strips.Goals as goal

pub loop-from-preserved : goal.loop-from-preserved
loop-from-preserved g c = grind (arith, columns_further, product_values)

pub returns : goal.returns
returns g c = grind arith
