use Rattle.std.proofs.Common.{◌∙◌, arith}
use Rattle.math_splitting.proofs.WrittenColumns.{columns_further, strip_values}
use Rattle.math_splitting.proofs.shards.splitting.write_rows.Goals as goal

pub loop-from-preserved : goal.loop-from-preserved
loop-from-preserved g c = grind (arith, columns_further, strip_values)

pub returns : goal.returns
returns g c = grind arith
