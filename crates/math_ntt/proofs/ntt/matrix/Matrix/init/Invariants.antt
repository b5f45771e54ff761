use Rattle.std.proofs.Common.{◌≡◌}
use Rattle.math_ntt.proofs.ntt.matrix.Matrix.init.Given as goal

-- the cells are the items so far
abbrev pub invariant-loop-cell : goal.invariant-loop-cell
invariant-loop-cell g l = l.cells.items ≡ l.yielded
