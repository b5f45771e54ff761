use Rattle.math_theory.specs.Powers.{power}
use Rattle.math_lagrange.proofs.weights.points.size.Given as goal

-- the power of two so far
abbrev pub invariant-loop-done : goal.invariant-loop-done
invariant-loop-done g l = g.F.Object.same l.out (power g.F.Ring.one g.F.Multiplicative.product (g.F.Additive.sum g.F.Ring.one g.F.Ring.one) l._done)
