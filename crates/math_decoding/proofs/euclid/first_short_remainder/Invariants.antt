use Rattle.std.proofs.Common.{◌+◌, ◌≤◌, length}
use Rattle.math_decoding.specs.Remainders.{AreRemainders}
use Rattle.math_decoding.proofs.euclid.first_short_remainder.Given as goal

-- two remainders in turn, of which the first has degree (m + count) / 2 or more
abbrev pub invariant-loop-alloc : goal.invariant-loop-alloc
invariant-loop-alloc g l = record {
  remainders : AreRemainders g.F.Object.same g.F.Additive.zero g.F.Additive.sum g.F.Multiplicative.product g.F.Ring.one l.points l.values l.before.coefficients.items l.before.factor.items l.last.coefficients.items l.last.factor.items;
  long : length l.points + l.count + 2 ≤ length l.before.coefficients.items + length l.before.coefficients.items;
}

abbrev pub decreases-loop-alloc : goal.decreases-loop-alloc
decreases-loop-alloc g l = length l.last.coefficients.items
