use Rattle.std.proofs.Common.{◌≡◌, ◌∙◌, ◌+◌, ◌*◌, arith}
use Rattle.math_transforms.proofs.MissingPlaces.{count_false-start, count_false-within, count_false-next_missing, count_false-next_filled}
use Rattle.math_transforms.proofs.vanishing.count_missing.Goals.{then-not-get, else-not-get}
use Rattle.math_transforms.proofs.vanishing.count_missing.Goals as goal

pub loop-j-init : goal.loop-j-init
loop-j-init c = record { counted = count_false-start c.args.spaced.now.start c.args.spaced.now.stride c.args.spaced.now.points.now 0 }

pub overflow_add-missing : goal.overflow_add-missing
overflow_add-missing c = grind (arith, count_false-within)

pub loop-j-preserved : goal.loop-j-preserved
loop-j-preserved c = grind (arith, then-not-get, count_false-next_missing, else-not-get, count_false-next_filled)
