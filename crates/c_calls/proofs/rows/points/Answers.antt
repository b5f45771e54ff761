use Rattle.std.proofs.Common.{arith, ◌∙◌, ◌==◌}
use Rattle.std.proofs.lemmas.Bool.{ne_eqb}
use Rattle.c_calls.proofs.TruthValues.{next-true, next-false}
use Rattle.c_calls.proofs.rows.points.Goals as goal
use Rattle.c_calls.proofs.rows.points.Goals.{then-bytes-i-eq1, else-bytes-i-eq1}

pub loop-i-preserved : goal.loop-i-preserved
loop-i-preserved c = grind (arith, then-bytes-i-eq1, next-true, else-bytes-i-eq1, next-false, ne_eqb)
