use Rattle.std.proofs.Common.{length, arith}
use Rattle.row_interpolation.proofs.IndexPoints.{least_lg}
use Rattle.row_interpolation.proofs.RisingIndices.{rising-count, rising-distinct}
use Rattle.row_interpolation.proofs.by_transforms.Transforms.new.Goals as goal

pub overflow_cast-indices : goal.overflow_cast-indices
overflow_cast-indices c = omega (arith, rising-count c.args.total c.args.indices.now c.requires.rising, c.ranges.total.fits)

pub new-requires-clause-part : goal.new-requires-clause-part
new-requires-clause-part c =
    let few = rising-count c.args.total c.args.indices.now c.requires.rising in
    least_lg (length c.args.indices.now) c.lg_above-part.result c.lg_above-lg.result (omega (arith, c.requires.many)) (omega (arith, few, c.lg_above-lg.ensures.value.1)) c.lg_above-part.ensures.value

pub new-requires-clause-distinct : goal.new-requires-clause-distinct
new-requires-clause-distinct c = rising-distinct c.args.indices.now c.requires.rising.0
