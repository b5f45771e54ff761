use Rattle.std.proofs.Common.{◌≡◌}
use Rattle.c_calls.proofs.TruthValues.{so_far}
use Rattle.c_calls.proofs.rows.points.Given as goal

-- the truth values so far, and then as many that are false as bytes are left
abbrev pub invariant-loop-i : goal.invariant-loop-i
invariant-loop-i l = l.out ≡ so_far l.bytes l.i
