use Rattle.std.proofs.Common.{◌∙◌, [], arith}
use Rattle.c_calls.proofs.joining.write_corrected.Goals as goal

pub returns-in-Ok-Some-clause-written : goal.returns-in-Ok-Some-clause-written
returns-in-Ok-Some-clause-written g c = grind arith

pub returns-in-Ok-None-clause-written : goal.returns-in-Ok-None-clause-written
returns-in-Ok-None-clause-written g c = grind arith
