use Rattle.std.proofs.Common.{◌*◌}
use Rattle.c_calls.specs.SystematicRows.{AreRowsIn}
use Rattle.c_calls.proofs.systematic.rows_of.Given as goal

-- the rows so far
abbrev pub invariant-loop-t : goal.invariant-loop-t
invariant-loop-t l = AreRowsIn (8 * l.held.code.split.width) l.held.indices.now l.held.bytes.now l.t l.rows.items
