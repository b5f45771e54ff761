use Rattle.std.proofs.Common.{◌∙◌, ap}
use Rattle.math_base.specs.Polynomials.{value_in_ring}
use Rattle.math_fields.specs.Elements.{goldilocks}
use Rattle.math_values.proofs.BlockValues.{residues-of-numbers}
use Rattle.math_values.proofs.values.PowerTable.value.Goals as goal

pub returns : goal.returns
returns c =
    c.value_and_count.ensures.value
    ∙ ap (λ xs. value_in_ring goldilocks xs c.args.self.now.point) (residues-of-numbers c.args.coefficients.now)
