use Rattle.std.proofs.Common.{ℕ, ◌<◌, get_or}
use Rattle.math_base.proofs.weights.first_place.Given as goal

-- no item so far is same as x
abbrev pub invariant-loop-i : goal.invariant-loop-i
invariant-loop-i g l = (k : ℕ) (d : _) → k < l.i → ¬ (g.T.Object.same (get_or l.items k d) l.x)
