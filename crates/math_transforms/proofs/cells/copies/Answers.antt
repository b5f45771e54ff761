use Rattle.std.proofs.Common.{arith}
use Rattle.math_transforms.proofs.PlaceByPlace.{AllZip-push}
use Rattle.math_transforms.proofs.cells.copies.Goals as goal

pub loop-cell-preserved : goal.loop-cell-preserved
loop-cell-preserved g c = grind (arith, AllZip-push)
