use Rattle.std.proofs.Common.{rules}
use Rattle.commonware_math.specs.SyntheticLaws.{combinations_equality}
use Rattle.commonware_math.proofs.CombinationMaps.{double_map, doubled}
use Rattle.commonware_math.proofs.synthetic.algebra.SyntheticAdditive.double.Goals as goal

pub returns-clause-ok : goal.returns-clause-ok
returns-clause-ok g c =
    let F = g.met.F in
    let G = g.met.G in
    let twice = c.in_ok-twice.ensures.ok (λ w. g.F.Additive.sum w w) (λ p. g.G.Additive.sum p p)
    (double_map F.Object.equality F.Additive.group G.Object.equality G.Additive.group G.Space.spans) (λ w x h. search rules) in
    (combinations_equality g.F.Additive.zero g.F.Additive.sum F.Object.equality G.Object.equality).transitive _ _ _ twice
    (doubled F.Object.equality F.Additive.group G.Object.equality G.Additive.group G.Space.spans c.args.self.now)
