use Rattle.std.proofs.Common.{arith}
use Rattle.math_transforms.proofs.PresentIndices.{lg-of_total}
use Rattle.row_interpolation.proofs.points.lg_above.Goals as goal

pub returns-clause-value : goal.returns-clause-value
returns-clause-value c = lg-of_total c.args.count (omega (arith, c.requires)) c.ranges.count.fits
