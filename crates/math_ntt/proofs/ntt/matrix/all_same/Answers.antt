use Rattle.std.proofs.Common.{arith}
use Rattle.math_transforms.proofs.PlaceByPlace.{AllZip-next}
use Rattle.math_ntt.proofs.ntt.matrix.all_same.Goals as goal

pub loop-i-preserved : goal.loop-i-preserved
loop-i-preserved g c = grind (arith, AllZip-next)
