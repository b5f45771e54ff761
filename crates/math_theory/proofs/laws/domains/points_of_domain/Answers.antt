use Rattle.math_theory.proofs.domains.PowerLists.{powers-distinct}
use Rattle.math_theory.proofs.laws.domains.points_of_domain.Goals as goal

pub returns : goal.returns
returns c st = λ R. powers-distinct R
