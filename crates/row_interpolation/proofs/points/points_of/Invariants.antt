use Rattle.std.proofs.Common.{◌≡◌, take}
use Rattle.math_fields.specs.Elements.{goldilocks, root_of}
use Rattle.math_transforms.specs.RootWeights.{powers_at}
use Rattle.row_interpolation.proofs.points.points_of.Given as goal

-- the points so far
abbrev pub invariant-loop-index : goal.invariant-loop-index
invariant-loop-index l = l.out.items ≡ powers_at goldilocks (root_of l.fn.lg) (take l.index-index l.indices)
