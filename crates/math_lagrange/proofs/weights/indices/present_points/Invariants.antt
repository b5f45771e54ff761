use Rattle.std.proofs.Common.{◌≡◌, ◌^◌, length}
use Rattle.math_transforms.specs.RootWeights.{AreTrueAt}
use Rattle.math_lagrange.proofs.weights.indices.present_points.Given as goal

-- the indices so far
abbrev pub invariant-loop-index : goal.invariant-loop-index
invariant-loop-index g l =
    (goal.iterator-loop-index g).can_next l.index-iterator × (goal.iterator-loop-index g).is_finite l.index-iterator × (length l.points ≡ 2 ^ l.lg) × AreTrueAt l.total l.yielded l.points
