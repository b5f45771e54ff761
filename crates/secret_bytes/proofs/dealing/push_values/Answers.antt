use Rattle.std.proofs.Common.{arith}
use Rattle.secret_bytes.specs.Rows.{IsGrown}
use Rattle.secret_bytes.proofs.DealtRows.{zip-from}
use Rattle.secret_bytes.proofs.dealing.push_values.Goals as goal

pub returns : goal.returns
returns c =
    zip-from (IsGrown c.args.p.now) c.args.rows.now c.loop-row.rows c.loop-row.invariant.count
    (λ k r l. c.loop-row.invariant.done k r (omega (arith, l, c.loop-row.invariant.count, c.loop-row-test.false)))
