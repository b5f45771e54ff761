use Rattle.std.proofs.Common.{◌≡◌, ◌∙◌, List, ℕ, map, length, ap, sym, subst, arith}
use Rattle.math_theory.specs.Interpolation.{AreWeightsAt}
use Rattle.math_theory.specs.Powers.{power}
use Rattle.math_theory.proofs.interpolation.CarriedRootWeights as Carried
use Rattle.math_transforms.proofs.PresentIndices.{domain-of}
use Rattle.math_lagrange.proofs.RootWeightCases.{places-count, places-inside, gathered-at}
use Rattle.math_lagrange.proofs.weights.weights_at_zero.Goals as goal

pub vanishing-requires-clause-domain : goal.vanishing-requires-clause-domain
vanishing-requires-clause-domain g c = domain-of _ _ c.args.lg c.requires.size c.requires.domain.0

pub vanishing-requires-clause-some : goal.vanishing-requires-clause-some
vanishing-requires-clause-some g c = omega (arith, c.requires.some, places-count c.args.present.now c.args.places.now c.requires.places)

pub copies_at-requires : goal.copies_at-requires
copies_at-requires g c =
    places-inside c.args.present.now c.args.places.now c.requires.places _
    (ap length c.values.ensures ∙ (c.in_ok-at_zero.ensures.vanishing c.args.lg c.requires.size).lengths)

pub returns : goal.returns
returns g c =
    let F = g.met.F in
    let E = F.Object.equality in
    let filled = c.args.present.now in
    let places = c.args.places.now in
    let V = c.in_ok-at_zero.ensures.vanishing c.args.lg c.requires.size in
    let count : length c.in_ok-values.values.items ≡ length places = c.in_ok-values.ensures.count in
    let some = places-count filled places c.requires.places in
    subst (λ (is : List ℕ). AreWeightsAt g.F.Object.same g.F.Additive.zero g.F.Additive.sum g.F.Multiplicative.product g.F.Ring.one c.args.x.now
    (map (power g.F.Ring.one g.F.Multiplicative.product (g.F.FieldNTT.root c.args.lg)) is) c.in_ok-out.out.items)
    (sym c.requires.places)
    (Carried.weights_at_zero E F.Additive.group F.Multiplicative.commutes F.Ring.ring F.Field.field c.args.lg (g.F.FieldNTT.root c.args.lg) filled c.requires.size
    (F.FieldNTT.roots.order c.args.lg c.requires.domain.0)
    c.in_ok-at_zero.at_zero c.in_ok-at_zero.column V c.args.x.now c.in_ok-divisor.divisor c.in_ok-factor.factor c.in_ok-values.values.items c.in_ok-out.out.items
    c.requires.zero c.in_ok-divisor.ensures (E.transitive _ _ _ c.in_ok-factor.ensures.ok (F.Field.field.respects _ _ c.in_ok-mul_assign.ensures.ok)) (c.in_ok-out.ensures.count ∙ count ∙ some)
    (gathered-at filled places c.requires.places g.F.Object.same g.F.Additive.zero c.in_ok-values.values.items c.values.result.now c.in_ok-at_zero.column c.values.ensures c.in_ok-values.ensures.items)
    (λ k l. c.in_ok-out.ensures.each k (omega (arith, l, count, some))))
