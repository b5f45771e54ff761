use Rattle.std.proofs.Common.{arith, ◌≡◌, ◌∙◌}
use Rattle.math_transforms.proofs.BitmapPoints.{truth_values-zeros, IsBitmap-zeros}
use Rattle.math_transforms.proofs.vanishing_points.VanishingPoints.new.Goals as goal

pub invariant_of-result : goal.invariant_of-result
invariant_of-result c = grind (arith, IsBitmap-zeros)

pub returns : goal.returns
returns c = grind (arith, truth_values-zeros)
