use Rattle.std.proofs.Common.{◌≡◌}
use Rattle.math_transforms.specs.MissingPoints.{count_false, every}
use Rattle.math_transforms.proofs.vanishing.count_missing.Given as goal

-- the missing ones of the points so far
abbrev pub invariant-loop-j : goal.invariant-loop-j
invariant-loop-j l = record { counted : l.missing ≡ count_false (every l.spaced.start l.spaced.stride l.j l.spaced.points.now) }
