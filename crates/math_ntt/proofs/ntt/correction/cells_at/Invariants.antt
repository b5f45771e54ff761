use Rattle.std.proofs.Common.{◌≡◌, ℕ, ◌+◌, ◌*◌, ◌<◌, length, get_or}
use Rattle.math_ntt.proofs.ntt.correction.cells_at.Given as goal

-- copies of the cells so far
abbrev pub invariant-loop-j : goal.invariant-loop-j
invariant-loop-j g l = record {
  count : length l.out.items ≡ l.j;
  cells : (d : g.row.F.Denot) (j : ℕ) → j < l.j → g.F.Object.same (get_or l.out.items j d) (get_or l.cells (get_or l.rows j 0 * l.cols + l.column) d);
}
