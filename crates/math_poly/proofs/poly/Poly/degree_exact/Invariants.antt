use Rattle.std.proofs.Common.{ℕ, ◌≤◌}
use Rattle.math_theory.specs.Coefficients.{coefficient}
use Rattle.math_poly.proofs.poly.Poly.degree_exact.Given as goal

-- every coefficient from the i-th on is zero
abbrev pub invariant-loop-i : goal.invariant-loop-i
invariant-loop-i g l = (k : ℕ) → l.i ≤ k → g.K.Object.same (coefficient g.K.Additive.zero l.self k) g.K.Additive.zero
