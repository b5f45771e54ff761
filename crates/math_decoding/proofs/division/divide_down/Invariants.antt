use Rattle.std.proofs.Common.{◌≡◌, ◌+◌, length, reverse}
use Rattle.math_theory.specs.Division.{IsDividedDownTo}
use Rattle.math_decoding.proofs.division.divide_down.Given as goal

-- the quotient so far, the last coefficient first, and what is left
abbrev pub invariant-loop-i : goal.invariant-loop-i
invariant-loop-i g l = record {
  long : length l.left.items ≡ l.i + l.n;
  count : length l.quotient.items + length l.left.items ≡ length l.initial.left.items;
  divided : IsDividedDownTo g.F.Object.same g.F.Additive.zero g.F.Additive.sum g.F.Multiplicative.product l.i l.initial.left.items l.d (reverse l.quotient.items) l.left.items;
}
