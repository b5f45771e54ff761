use Rattle.std.proofs.Common.{◌≡◌}
use Rattle.commonware_math.proofs.synthetic.Synthetic.concrete.Given as goal

-- the pairs so far
abbrev pub invariant-loop-weighted_point : goal.invariant-loop-weighted_point
invariant-loop-weighted_point g l = l.concrete.items ≡ l.yielded
