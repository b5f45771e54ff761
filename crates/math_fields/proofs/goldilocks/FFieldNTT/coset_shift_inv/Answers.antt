use Rattle.std.proofs.Common.{ap, sym, ◌%◌, lit<}
use Rattle.math_numbers.specs.Goldilocks.{P}
use Rattle.math_numbers.proofs.PowersModulo.{power_mod-by_squaring}
use Rattle.math_fields.proofs.goldilocks.FFieldNTT.coset_shift_inv.Goals as goal

pub returns-clause-ok : goal.returns-clause-ok
returns-clause-ok c = sym (ap (λ t. t % P) (power_mod-by_squaring 64 P 8771938197754560865 18446744069414584319 (lit< tt)))
