use Rattle.std.proofs.Common.{◌≡◌, ◌∙◌, ◌+◌, ◌*◌, arith}
use Rattle.math_transforms.proofs.ReversedRows.{exchanged-none, exchanged-more, exchanged-rows}
use Rattle.math_transforms.proofs.transform.order.swap_rows.Goals as goal

pub loop-k-init : goal.loop-k-init
loop-k-init g c = exchanged-none _ _ _ _ _

pub loop-k-preserved : goal.loop-k-preserved
loop-k-preserved g c = grind (arith, exchanged-more)

pub returns-then-cols-eq1 : goal.returns-then-cols-eq1
returns-then-cols-eq1 g c = grind arith

pub returns : goal.returns
returns g c = grind (arith, exchanged-rows)
