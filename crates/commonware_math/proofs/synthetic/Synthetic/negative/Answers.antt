use Rattle.std.proofs.Common.{rules}
use Rattle.commonware_math.proofs.CombinationMaps.{negative_map}
use Rattle.commonware_math.proofs.synthetic.Synthetic.negative.Goals as goal

pub returns-clause-ok : goal.returns-clause-ok
returns-clause-ok g c =
    c.in_ok-out.ensures.ok g.F.Additive.negative g.G.Additive.negative
    (negative_map g.met.F.Object.equality g.met.F.Additive.group g.met.G.Object.equality g.met.G.Additive.group g.met.G.Space.spans) (λ w x h. search rules)
