use Rattle.std.proofs.Common.{ℕ, ◌<◌, get_or}
use Rattle.math_theory.specs.Sums.{weighted_sum}
use Rattle.math_base.proofs.Members.{ring_members}
use Rattle.shared_secret.proofs.weighing.secret_of.Given as goal

-- the further values so far are what the weights give
abbrev pub invariant-loop-i : goal.invariant-loop-i
invariant-loop-i g l =
    let R = ring_members g.F.Multiplicative.product g.F.Debug.debug_output g.F.Object.same g.F.Object.NEVER_REFUSES g.F.Additive.zero g.F.Additive.sum g.F.Additive.negative g.F.Ring.one in
    (k : ℕ) (d : _) → k < l.i → R.same (weighted_sum R.zero R.sum R.product l.first (get_or l.weights.further.items k d).items) (get_or l.others k R.zero)
