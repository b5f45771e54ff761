use Rattle.std.proofs.Common.{◌∙◌, ◌*◌, arith}
use Rattle.math_ntt.proofs.FirstRows.{first_rows}
use Rattle.math_transforms.proofs.MatrixRows.{length-pieces}
use Rattle.math_ntt.proofs.ntt.polynomials.PolynomialVector.coefficients_up_to.Goals as goal

pub returns-clause-rows : goal.returns-clause-rows
returns-clause-rows g c = grind (arith, first_rows)

pub returns-clause-count : goal.returns-clause-count
returns-clause-count g c = grind (arith, length-pieces)

pub returns-clause-fits : goal.returns-clause-fits
returns-clause-fits g c = grind (arith, length-pieces)
