use Rattle.math_theory.proofs.domains.PowerLists.{coset-apart, coset-distinct, HasCoset-of_order}
use Rattle.math_theory.proofs.laws.domains.points_of_coset.Goals as goal

pub returns-clause-apart : goal.returns-clause-apart
returns-clause-apart c st = λ R. coset-apart R

pub returns-clause-distinct : goal.returns-clause-distinct
returns-clause-distinct c st = λ R. coset-distinct R

pub returns-clause-recovery : goal.returns-clause-recovery
returns-clause-recovery c st = λ R. HasCoset-of_order R
