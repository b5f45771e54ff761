use Rattle.std.proofs.Common.{◌≡◌, drop}
use Rattle.math_fields.specs.Elements.{product}
use Rattle.row_interpolation.specs.Weights.{differences}
use Rattle.row_interpolation.proofs.weights.product_of_differences.Given as goal

-- the product so far, times that of the points that are left, is the whole
abbrev pub invariant-loop-p : goal.invariant-loop-p
invariant-loop-p l = product l.out (differences l.x (drop l.p-index l.points)) ≡ differences l.x l.points
