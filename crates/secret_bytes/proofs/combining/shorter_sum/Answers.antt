use Rattle.std.proofs.Common.{◌∙◌, length, arith}
use Rattle.math_fields.specs.Elements.{product, residue, sum}
use Rattle.secret_bytes.proofs.ShorterSums.{weighted_sum-take}
use Rattle.secret_bytes.proofs.combining.shorter_sum.Goals as goal

pub returns : goal.returns
returns c = c.sum_of_products-2.ensures ∙ weighted_sum-take (residue 0) sum product (length c.args.ys.now) c.args.xs.now c.args.ys.now (omega arith)
