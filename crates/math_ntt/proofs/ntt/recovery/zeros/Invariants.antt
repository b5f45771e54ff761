use Rattle.std.proofs.Common.{ℕ, ◌<◌, get_or}
use Rattle.math_ntt.proofs.ntt.recovery.zeros.Given as goal

-- the cells so far are zero
abbrev pub invariant-loop-cell : goal.invariant-loop-cell
invariant-loop-cell g l = record { done : (k : ℕ) → k < l.cell-index → g.F.Object.same (get_or l.cells k g.F.Additive.zero) g.F.Additive.zero }
