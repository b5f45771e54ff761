use Rattle.std.proofs.Common.{◌≡◌, ◌+◌, ◌-◌, ◌*◌, arith}
use Rattle.math_shards.proofs.shards.joining_rows.cell_row.Goals as goal

pub returns-clause-cells : goal.returns-clause-cells
returns-clause-cells g c = grind arith
