use Rattle.std.proofs.Common.{◌≡◌, ◌∙◌, ◌∷◌, ◌/◌, [], length, take, sym, arith}
use Rattle.std.proofs.lemmas.List.{length-take}
use Rattle.commonware_math.specs.Synthetics.{combination_multiple}
use Rattle.commonware_math.specs.SyntheticLaws.{combinations_equality, combinations_group}
use Rattle.commonware_math.proofs.WeightedCombinations.{one_item, indices-of_one, indices-of_halves, weighted_sum-of_one, weighted_sum-of_halves}
use Rattle.commonware_math.proofs.synthetic.algebra.+weighted_sum_by_halves.Goals as goal

pub returns-then-count-eq1-clause-indices : goal.returns-then-count-eq1-clause-indices
returns-then-count-eq1-clause-indices g t c =
    let one : c.args.combinations.now ≡ c.index-combinations-0.result ∷ [] = one_item _ _ c.if-count-eq1.true c.index-combinations-0.is in
    indices-of_one _ _ _ one c.in_ok-out.ensures.rising c.in_ok-out.ensures.indices

pub returns-then-count-eq1-clause-ok : goal.returns-then-count-eq1-clause-ok
returns-then-count-eq1-clause-ok g t c =
    let F = g.met.F in
    let G = g.met.G in
    let Q = combinations_equality g.F.Additive.zero g.F.Additive.sum F.Object.equality G.Object.equality in
    let P = combinations_group F.Object.equality F.Additive.group G.Object.equality G.Additive.group in
    let one : c.args.combinations.now ≡ c.index-combinations-0.result ∷ [] = one_item _ _ c.if-count-eq1.true c.index-combinations-0.is in
    let scalar : c.args.scalars.now ≡ c.index-scalars-0.result ∷ [] = one_item _ _ (sym c.requires ∙ c.if-count-eq1.true) c.index-scalars-0.is in
    Q.transitive _ _ _ c.in_ok-out.ensures.ok (weighted_sum-of_one Q P (combination_multiple g.F.Multiplicative.product g.G.Space.scaling) _ _ _ _ one scalar)

pub returns-clause-indices : goal.returns-clause-indices
returns-clause-indices g t c =
    indices-of_halves c.args.combinations.now _ _ _ _ (rw c.split_at.ensures.front at c.in_ok-sum.ensures.indices)
    (rw c.split_at.ensures.back at c.in_ok-other_sum.ensures.indices) c.in_ok-out-2.ensures.indices

pub returns-clause-ok : goal.returns-clause-ok
returns-clause-ok g t c =
    let F = g.met.F in
    let G = g.met.G in
    let Q = combinations_equality g.F.Additive.zero g.F.Additive.sum F.Object.equality G.Object.equality in
    let P = combinations_group F.Object.equality F.Additive.group G.Object.equality G.Additive.group in
    let m = length c.args.combinations.now / 2 in
    let even : length (take m c.args.combinations.now) ≡ length (take m c.args.scalars.now) =
    omega (arith, length-take m c.args.combinations.now, length-take m c.args.scalars.now, c.requires) in
    Q.transitive _ _ _ c.in_ok-out-2.ensures.ok
    (Q.transitive _ _ _ (P.respects_sum _ _ _ _ (rw (c.split_at.ensures.front, c.split_at-2.ensures.front) at c.in_ok-sum.ensures.ok)
    (rw (c.split_at.ensures.back, c.split_at-2.ensures.back) at c.in_ok-other_sum.ensures.ok))
    (weighted_sum-of_halves Q P (combination_multiple g.F.Multiplicative.product g.G.Space.scaling) c.args.combinations.now c.args.scalars.now m even))
