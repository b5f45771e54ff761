use Rattle.math_lanes.proofs.LaneLists.{lower_half_lanes}
use Rattle.math_lanes.proofs.words.lower_halves.Goals as goal

pub returns : goal.returns
returns g c = lower_half_lanes g.row.N c.args.a c.fits-a.0
