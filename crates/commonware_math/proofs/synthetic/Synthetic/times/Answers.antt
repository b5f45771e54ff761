use Rattle.std.proofs.Common.{rules}
use Rattle.commonware_math.proofs.CombinationMaps.{product_map}
use Rattle.commonware_math.proofs.synthetic.Synthetic.times.Goals as goal

pub returns-clause-ok : goal.returns-clause-ok
returns-clause-ok g c =
    let F = g.met.F in
    c.in_ok-out.ensures.ok (λ w. g.F.Multiplicative.product w c.args.r.now) (λ p. g.G.Space.scaling p c.args.r.now)
    (product_map F.Object.equality F.Additive.group g.met.G.Object.equality g.met.G.Additive.group g.met.G.Space.spans F.Multiplicative.commutes F.Ring.ring c.args.r.now) (λ w x h. search rules)
