use Rattle.math_theory.proofs.interpolation.Interpolation.{interpolated, length-interpolated, values_at-interpolated, values_at-agreement}
use Rattle.math_theory.proofs.laws.interpolation.interpolation.Goals as goal

pub returns-clause-through : goal.returns-clause-through
returns-clause-through g c = λ F points values d e. (interpolated F points values, length-interpolated F points values e, values_at-interpolated F points values d e)

pub returns-clause-once : goal.returns-clause-once
returns-clause-once g c = λ F. values_at-agreement F
