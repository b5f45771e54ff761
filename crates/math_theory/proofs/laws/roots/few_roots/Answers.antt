use Rattle.math_theory.proofs.polynomials.Roots as Roots
use Rattle.math_theory.proofs.laws.roots.few_roots.Goals as goal

pub returns : goal.returns
returns g c = λ F. Roots.few_roots F
