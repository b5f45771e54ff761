use Rattle.std.proofs.Common.{◌∙◌}
use Rattle.math_lanes.proofs.LaneLists.{sum_lanes}
use Rattle.math_lanes.proofs.words.sums_of_words.Goals as goal

pub returns : goal.returns
returns g c = c.differences_of_words.ensures ∙ sum_lanes g.row.N c.args.a c.args.b c.fits-a.0 c.fits-b.0
