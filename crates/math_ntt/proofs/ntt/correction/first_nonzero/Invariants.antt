use Rattle.std.proofs.Common.{ℕ, ◌<◌, get_or}
use Rattle.math_ntt.proofs.ntt.correction.first_nonzero.Given as goal

-- the cells so far are zero
abbrev pub invariant-loop-k : goal.invariant-loop-k
invariant-loop-k g l = (k : ℕ) → k < l.k → g.F.Object.same (get_or l.cells k g.F.Additive.zero) g.F.Additive.zero
