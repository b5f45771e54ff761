use Rattle.math_theory.proofs.polynomials.Roots as Roots
use Rattle.math_theory.proofs.laws.roots.agreement.Goals as goal

pub returns : goal.returns
returns g c = λ F points p q d l m h. Roots.agreement F points p q l m d h
