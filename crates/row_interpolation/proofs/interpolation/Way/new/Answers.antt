use Rattle.std.proofs.Common.{arith}
use Rattle.row_interpolation.proofs.RisingIndices.{rising-count}
use Rattle.row_interpolation.proofs.interpolation.Way.new.Goals as goal

pub overflow_cast-count : goal.overflow_cast-count
overflow_cast-count c = omega (arith, rising-count c.args.total c.args.indices.now c.requires.wanted.rising, c.ranges.total.fits)

pub are_weights_cheaper-requires-clause-within : goal.are_weights_cheaper-requires-clause-within
are_weights_cheaper-requires-clause-within c = rising-count c.args.total c.args.indices.now c.requires.wanted.rising
