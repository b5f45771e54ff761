use Rattle.std.proofs.Common.{rules}
use Rattle.std.proofs.lemmas.List.{map-id}
use Rattle.commonware_math.proofs.CombinationMaps.{identity_map}
use Rattle.commonware_math.proofs.synthetic.algebra.SyntheticObject.clone.Goals as goal

pub returns-clause-ok : goal.returns-clause-ok
returns-clause-ok g c =
    rw (map-id c.args.self.now.0) at (c.in_ok-copy.ensures.ok (λ w. w) (λ p. p)
    (identity_map g.met.F.Object.equality g.met.F.Additive.group g.met.G.Object.equality g.met.G.Additive.group g.met.G.Space.spans) (λ w x h. search rules))
