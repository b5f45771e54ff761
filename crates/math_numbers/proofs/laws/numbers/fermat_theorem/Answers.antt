use Rattle.math_numbers.proofs.Fermat.{fermat, inverse_mod-inverts}
use Rattle.math_numbers.proofs.laws.numbers.fermat_theorem.Goals as goal

pub returns-clause-power : goal.returns-clause-power
returns-clause-power c = fermat

pub returns-clause-inverse : goal.returns-clause-inverse
returns-clause-inverse c = inverse_mod-inverts
