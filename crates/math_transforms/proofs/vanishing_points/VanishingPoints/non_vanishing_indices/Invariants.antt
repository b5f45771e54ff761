use Rattle.std.proofs.Common.{◌≡◌, take}
use Rattle.std.specs.List.{range_with_len}
use Rattle.math_theory.specs.Recovery.{filled_items}
use Rattle.math_transforms.proofs.vanishing_points.VanishingPoints.non_vanishing_indices.Given as goal

-- the indices of the true values so far
abbrev pub invariant-loop-i : goal.invariant-loop-i
invariant-loop-i l = l.out.items ≡ filled_items (range_with_len 0 l.i) (take l.i l.self)
