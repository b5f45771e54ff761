use Rattle.std.proofs.Common.{ℕ, ◌<◌}
use Rattle.math_theory.specs.Coefficients.{coefficient}
use Rattle.math_poly.proofs.poly.algebra.PolyObject.equals.Given as goal

-- the coefficients so far are the same
abbrev pub invariant-loop-i : goal.invariant-loop-i
invariant-loop-i g l = (k : ℕ) → k < l.i → g.K.Object.same (coefficient g.K.Additive.zero l.c-items k) (coefficient g.K.Additive.zero l.longer-inside.coefficients.items k)
