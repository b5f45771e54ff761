use Rattle.commonware_math.specs.SyntheticLaws.{combinations_equality, combinations_group}
use Rattle.commonware_math.proofs.WeightMaps.{indices-of_copies}
use Rattle.commonware_math.proofs.synthetic.algebra.SyntheticAdditive.sub_assign.Goals as goal

pub returns-clause-ok : goal.returns-clause-ok
returns-clause-ok g c =
    let F = g.met.F in
    let G = g.met.G in
    let Q = combinations_equality g.F.Additive.zero g.F.Additive.sum F.Object.equality G.Object.equality in
    let P = combinations_group F.Object.equality F.Additive.group G.Object.equality G.Additive.group in
    Q.transitive _ _ _ c.in_ok-self.ensures.ok (P.respects_sum _ _ _ _ c.in_ok-clone.ensures.ok c.in_ok-terms.ensures.ok)

pub returns-clause-indices : goal.returns-clause-indices
returns-clause-indices g c = indices-of_copies _ _ _ _ _ c.in_ok-clone.ensures.indices c.in_ok-terms.ensures.indices c.in_ok-self.ensures.indices
