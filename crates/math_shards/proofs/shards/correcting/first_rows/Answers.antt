use Rattle.std.proofs.Common.{arith, ◌∙◌}
use Rattle.math_shards.proofs.TakenCells.{joined_from_rows}
use Rattle.math_shards.proofs.shards.correcting.first_rows.Goals as goal

pub loop-row-init : goal.loop-row-init
loop-row-init c = grind (arith, joined_from_rows)
