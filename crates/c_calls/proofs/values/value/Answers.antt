use Rattle.std.proofs.Common.{arith, ◌≡◌, ◌∙◌}
use Rattle.math_fields.proofs.ElementNumbers.{same_number}
use Rattle.c_calls.proofs.values.value.Goals as goal

pub returns-clause-some : goal.returns-clause-some
returns-clause-some c = grind (arith, same_number)
