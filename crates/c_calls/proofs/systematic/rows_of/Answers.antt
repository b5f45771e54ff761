use Rattle.std.proofs.Common.{arith, ◌∙◌, ◌-◌, ◌+◌, ◌*◌}
use Rattle.c_calls.proofs.systematic.rows_of.Goals as goal

pub loop-t-preserved : goal.loop-t-preserved
loop-t-preserved c = grind arith
