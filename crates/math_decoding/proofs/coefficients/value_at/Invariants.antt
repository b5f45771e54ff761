use Rattle.std.proofs.Common.{drop}
use Rattle.math_theory.specs.Values.{value}
use Rattle.math_decoding.proofs.coefficients.value_at.Given as goal

-- the value of the coefficients from place i on
abbrev pub invariant-loop-i : goal.invariant-loop-i
invariant-loop-i g l = g.F.Object.same l.value (value g.F.Additive.zero g.F.Additive.sum g.F.Multiplicative.product g.F.Ring.one l.r (drop l.i l.p))
