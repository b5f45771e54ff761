use Rattle.std.proofs.Common.{length, refl}
use Rattle.math_theory.proofs.recovery.Recovery.{Fits-from_division}
use Rattle.math_theory.proofs.laws.recovery.division_on_coset.Goals as goal

pub returns : goal.returns
returns g c = λ F w s u d m cells filled v h q e some few step within C V G Q. Fits-from_division F w s u (length cells) d m cells filled v h q refl e some few step within C V G Q
