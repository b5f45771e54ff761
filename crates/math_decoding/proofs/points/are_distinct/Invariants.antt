use Rattle.std.proofs.Common.{ℕ, ◌<◌, length, get_or}
use Rattle.math_decoding.proofs.points.are_distinct.Given as goal

-- no point before place i is the same as a later one
abbrev pub invariant-loop-i : goal.invariant-loop-i
invariant-loop-i g l = (j k : ℕ) (d : _) → j < l.i → j < k → k < length l.points → ¬ (g.F.Object.same (get_or l.points j d) (get_or l.points k d))
