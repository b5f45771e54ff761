use Rattle.math_lanes.proofs.LaneLists.{difference_lanes}
use Rattle.math_lanes.proofs.words.differences_of_words.Goals as goal

pub returns : goal.returns
returns g c = difference_lanes g.row.N c.args.a c.args.b c.fits-a.0 c.fits-b.0 c.fits-a.1
