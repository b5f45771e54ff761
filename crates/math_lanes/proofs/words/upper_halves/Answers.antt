use Rattle.std.proofs.Common.{arith}
use Rattle.std.proofs.lemmas.Simd.{shifts_fit_splat, zip2_splat}
use Rattle.math_lanes.proofs.words.upper_halves.Goals as goal

pub overflow_shr-result : goal.overflow_shr-result
overflow_shr-result g c = shifts_fit_splat 64 c.args.a g.row.N 32 (omega arith)

pub returns : goal.returns
returns g c = zip2_splat _ c.args.a g.row.N 32 c.fits-a.0
