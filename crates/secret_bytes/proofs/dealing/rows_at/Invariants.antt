use Rattle.std.proofs.Common.{◌≡◌, []}
use Rattle.math_fields.specs.Elements.{number}
use Rattle.secret_bytes.specs.Rows.{AreRows}
use Rattle.secret_bytes.proofs.dealing.rows_at.Given as goal

-- the rows so far, and the point of the last of them
abbrev pub invariant-loop-i : goal.invariant-loop-i
invariant-loop-i l = record {
  rows : AreRows l.t l.deal l.i [] l.rows.items;
  point : number l.point ≡ l.i;
}
