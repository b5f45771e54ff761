use Rattle.std.proofs.Common.{get_or, ◌∙◌, ap}
use Rattle.math_theory.proofs.interpolation.Interpolation.{lagrange_weights-one, lagrange_weights-zero, weights-lagrange_weights}
use Rattle.math_theory.proofs.laws.interpolation.weights_at_point.Goals as goal

pub returns-clause-one : goal.returns-clause-one
returns-clause-one g c = λ F points weights k d l W.
    ap (λ ws. get_or ws k F.zero) (weights-lagrange_weights F (get_or points k F.zero) points weights d W) ∙ lagrange_weights-one F points k d l

pub returns-clause-zero : goal.returns-clause-zero
returns-clause-zero g c = λ F points weights i k d l W m n.
    ap (λ ws. get_or ws i F.zero) (weights-lagrange_weights F (get_or points k F.zero) points weights d W) ∙ lagrange_weights-zero F points i k m l n
