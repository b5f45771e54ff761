use Rattle.c_calls.proofs.FilledRows.{HoldFilled}
use Rattle.c_calls.proofs.rows.filled_elements.Given as goal

-- the rows so far
abbrev pub invariant-loop-i : goal.invariant-loop-i
invariant-loop-i l = HoldFilled l.cols l.i l.cells l.bytes l.out.items
