use Rattle.math_theory.proofs.classes.PlainEquality.{ring_equality, ring_group, ring_product, ring_laws, space_equality, space_group, space_module}
use Rattle.math_theory.proofs.interpolation.WeightsInSpaces.{weights-value_over}
use Rattle.math_theory.proofs.laws.interpolation.weights_in_spaces.Goals as goal

pub returns : goal.returns
returns g c = λ R M. weights-value_over (ring_equality R) (ring_group R) (ring_product R) (ring_laws R) (space_equality M) (space_group M) (space_module M)
