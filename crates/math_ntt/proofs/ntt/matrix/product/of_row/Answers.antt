use Rattle.std.proofs.Common.{arith, ◌≡◌, ◌∙◌, ◌++◌}
use Rattle.math_transforms.proofs.FilledCells.{filled-zero}
use Rattle.math_ntt.proofs.MatrixProducts.{makes-none, makes-more}
use Rattle.math_base.proofs.WholeWrites.{take-written}
use Rattle.math_ntt.proofs.ntt.matrix.product.of_row.Goals as goal

pub loop-j-init : goal.loop-j-init
loop-j-init g c = grind (arith, makes-none, filled-zero)

pub loop-j-preserved : goal.loop-j-preserved
loop-j-preserved g c = grind (arith, take-written, makes-more)
