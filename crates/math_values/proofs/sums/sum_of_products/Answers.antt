use Rattle.std.proofs.Common.{◌∙◌, ap}
use Rattle.math_fields.specs.Elements.{residue}
use Rattle.math_values.proofs.SummedProducts.{residue-products}
use Rattle.math_values.proofs.sums.sum_of_products.Goals as goal

pub returns : goal.returns
returns c = c.remainder.ensures ∙ ap residue c.paired_products.ensures ∙ residue-products c.args.elements.now c.args.weights.now
