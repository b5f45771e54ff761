use Rattle.std.proofs.Common.{arith}
use Rattle.row_interpolation.proofs.RisingIndices.{rising-count}
use Rattle.row_interpolation.proofs.interpolation.Interpolation.new.Goals as goal

pub new-requires-clause-wanted : goal.new-requires-clause-wanted
new-requires-clause-wanted c = record {
  some = omega (arith, rising-count c.args.total c.args.indices.now c.requires.rising, c.requires.some);
  rising = c.requires.rising;
  below = c.requires.below;
  missing = c.requires.missing;
}
