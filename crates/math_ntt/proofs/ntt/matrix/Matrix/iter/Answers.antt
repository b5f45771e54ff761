use Rattle.std.proofs.Common.{◌∙◌, rules}
use Rattle.math_transforms.proofs.MatrixRows.{length-pieces}
use Rattle.math_ntt.proofs.ntt.matrix.Matrix.iter.Goals as goal

pub returns-clause-count : goal.returns-clause-count
returns-clause-count g c = length-pieces c.rows.result c.self.inside.cols c.deref.result.now ∙ c.rows.ensures

pub returns-clause-fits : goal.returns-clause-fits
returns-clause-fits g c = rw (length-pieces c.rows.result c.self.inside.cols c.deref.result.now) (search rules)
