use Rattle.std.proofs.Common.{get_or}
use Rattle.math_lagrange.proofs.RootWeightSteps.{ItemsSoFar}
use Rattle.math_lagrange.proofs.weights.points.copies_at.Given as goal

-- the copies so far
abbrev pub invariant-loop-place : goal.invariant-loop-place
invariant-loop-place g l =
    ItemsSoFar g.F.Additive.zero (λ k item. g.F.Object.same item (get_or l.items (get_or l.places k 0) g.F.Additive.zero)) l.out.items l.place-index
