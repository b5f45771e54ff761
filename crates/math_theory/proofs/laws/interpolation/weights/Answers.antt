use Rattle.math_theory.proofs.interpolation.Interpolation.{lagrange_weights-give, weights-lagrange_weights}
use Rattle.math_theory.proofs.laws.interpolation.weights.Goals as goal

pub returns-clause-given : goal.returns-clause-given
returns-clause-given g c = λ F. lagrange_weights-give F

pub returns-clause-once : goal.returns-clause-once
returns-clause-once g c = λ F. weights-lagrange_weights F
