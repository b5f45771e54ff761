use Rattle.std.proofs.Common.{◌^◌}
use Rattle.math_theory.specs.Powers.{power}
use Rattle.math_lagrange.proofs.weights.points.power_minus_one.Given as goal

-- the power so far
abbrev pub invariant-loop-done : goal.invariant-loop-done
invariant-loop-done g l = g.F.Object.same l.out (power g.F.Ring.one g.F.Multiplicative.product l.x (2 ^ l._done))
