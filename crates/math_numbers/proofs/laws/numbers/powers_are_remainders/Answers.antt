use Rattle.math_numbers.proofs.PowersModulo.{power_mod-is_pow}
use Rattle.math_numbers.proofs.laws.numbers.powers_are_remainders.Goals as goal

pub returns : goal.returns
returns c = power_mod-is_pow
