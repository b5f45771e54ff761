use Rattle.std.proofs.Common.{ℕ, ◌<◌, get_or}
use Rattle.math_decoding.proofs.points.stands_again.Given as goal

-- no point after place i and before place j is the same as the one at place i
abbrev pub invariant-loop-j : goal.invariant-loop-j
invariant-loop-j g l = (k : ℕ) (d : _) → l.i < k → k < l.j → ¬ (g.F.Object.same (get_or l.points l.i d) (get_or l.points k d))
