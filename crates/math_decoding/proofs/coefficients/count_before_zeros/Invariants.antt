use Rattle.std.proofs.Common.{ℕ, ◌≤◌}
use Rattle.math_theory.specs.Coefficients.{coefficient}
use Rattle.math_decoding.proofs.coefficients.count_before_zeros.Given as goal

-- the coefficients from place i on are zero
abbrev pub invariant-loop-i : goal.invariant-loop-i
invariant-loop-i g l = (k : ℕ) → l.i ≤ k → g.F.Object.same (coefficient g.F.Additive.zero l.p k) g.F.Additive.zero
