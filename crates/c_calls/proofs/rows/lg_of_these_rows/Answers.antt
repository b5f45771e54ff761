use Rattle.std.proofs.Common.{◌≡◌, ◌^◌, arith}
use Rattle.c_calls.proofs.WordMatrices.{same_rows}
use Rattle.c_calls.proofs.rows.lg_of_these_rows.Goals as goal

pub returns-in_default-clause-some : goal.returns-in_default-clause-some
returns-in_default-clause-some c = grind (arith, same_rows)
