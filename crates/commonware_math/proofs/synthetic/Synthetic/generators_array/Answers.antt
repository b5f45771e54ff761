use Rattle.std.proofs.Common.{rules, of_calls}
use Rattle.commonware_math.proofs.synthetic.Synthetic.generators_array.Goals as goal

pub returns : goal.returns
returns g c i l d = let h = c.in_ok-out.ensures.ok.at i d l in search (rules, of_calls)
