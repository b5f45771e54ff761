use Rattle.goldmath_commands.specs.Recoveries.{HoldsRows}
use Rattle.goldmath_commands.proofs.recovery.place_rows.Given as goal

abbrev pub invariant-loop-i : goal.invariant-loop-i
invariant-loop-i l = HoldsRows l.recovery.lg l.recovery.rows.items l.matrix l.i l.values
