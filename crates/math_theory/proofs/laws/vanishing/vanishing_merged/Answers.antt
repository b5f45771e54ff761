use Rattle.math_theory.proofs.domains.RootProductLists.{VanishesAt-merged}
use Rattle.math_theory.proofs.laws.vanishing.vanishing_merged.Goals as goal

pub returns : goal.returns
returns c st = λ F. VanishesAt-merged F
