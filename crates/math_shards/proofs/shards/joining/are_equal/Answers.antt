use Rattle.std.proofs.Common.{◌∙◌, arith}
use Rattle.std.proofs.lemmas.Bool.{eqb-true, not-false}
use Rattle.math_transforms.proofs.PlaceByPlace.{AllZip-next}
use Rattle.math_shards.proofs.shards.joining.are_equal.Goals as goal

pub loop-i-preserved : goal.loop-i-preserved
loop-i-preserved c = grind (arith, AllZip-next, eqb-true, not-false)
