use Rattle.std.proofs.Common.{◌≡◌, ◌∙◌, ◌*◌, arith}
use Rattle.c_calls.proofs.systematic.have_rows.Goals as goal

pub returns-in-Some-checked_mul : goal.returns-in-Some-checked_mul
returns-in-Some-checked_mul c = grind arith

pub returns-in-None : goal.returns-in-None
returns-in-None c = grind arith
