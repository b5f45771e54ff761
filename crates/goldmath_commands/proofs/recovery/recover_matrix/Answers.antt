use Rattle.goldmath_commands.proofs.ReadMatrices.{answered}
use Rattle.goldmath_commands.proofs.recovery.recover_matrix.Goals as goal

pub returns-clause-encoded : goal.returns-clause-encoded
returns-clause-encoded c =
    answered (λ out. out.items) c.args.recovery.now.lg c.args.recovery.now.rows.items c.args.bytes.now _ c.recovered_exactly.ensures.answer c.recovered_exactly.ensures.exact
