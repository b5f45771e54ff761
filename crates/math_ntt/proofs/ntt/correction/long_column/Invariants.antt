use Rattle.std.proofs.Common.{ℕ, ◌<◌, ◌≤◌}
use Rattle.math_transforms.specs.Matrices.{cell_of}
use Rattle.math_ntt.proofs.ntt.correction.long_column.Given as goal

-- the rows so far are zero
abbrev pub invariant-loop-i : goal.invariant-loop-i
invariant-loop-i g l = (i k : ℕ) → l.fn.count ≤ i → i < l.i → k < l.coefficients.cols → g.F.Object.same (cell_of g.F.Additive.zero l.coefficients i k) g.F.Additive.zero
