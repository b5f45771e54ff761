use Rattle.std.proofs.Common.{◌/◌, arith}
use Rattle.std.proofs.lemmas.Option.{IfSome_then}
use Rattle.c_calls.proofs.rows.lg_of_rows.Goals as goal

pub returns-clause-rows : goal.returns-clause-rows
returns-clause-rows c = IfSome_then c.lg_of.result c.lg_of.ensures.lg (λ lg h. (c.args.n / c.args.cols, (lg, h.0, h.1), omega arith, omega arith))
