use Rattle.std.proofs.Common.{◌≡◌, ◌≤◌, ◌<◌, ◌*◌, ◌^◌}
use Rattle.hash_trees.specs.Descents.{lowered}
use Rattle.hash_trees.proofs.descent.lower.Given as goal

-- the place fits, and from here on it is lowered to the same node
abbrev pub invariant-loop-level : goal.invariant-loop-level
invariant-loop-level l =
    (l.level ≤ 64) × (l.place * 2 ^ l.level < 2 ^ 64) × (lowered l.leaves l.level l.place l.digest ≡ lowered l.leaves l.fn.level l.fn.place l.digest)

abbrev pub decreases-loop-level : goal.decreases-loop-level
decreases-loop-level l = l.level
