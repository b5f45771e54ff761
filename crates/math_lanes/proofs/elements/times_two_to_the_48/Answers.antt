use Rattle.std.proofs.Common.{arith, ◌∙◌}
use Rattle.std.proofs.lemmas.Simd.{shifts_fit_splat}
use Rattle.math_lanes.proofs.LaneLists.{shifted_lanes}
use Rattle.math_lanes.proofs.elements.times_two_to_the_48.Goals as goal

pub overflow_shl-a : goal.overflow_shl-a
overflow_shl-a g c = shifts_fit_splat 64 c.args.a g.row.N 48 (omega arith)

pub overflow_shr-a : goal.overflow_shr-a
overflow_shr-a g c = shifts_fit_splat 64 c.args.a g.row.N 16 (omega arith)

pub returns-clause-lanes : goal.returns-clause-lanes
returns-clause-lanes g c = c.reductions.ensures.lanes ∙ shifted_lanes g.row.N c.args.a c.fits-a.0 c.fits-a.1
