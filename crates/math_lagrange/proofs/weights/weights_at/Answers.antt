use Rattle.std.proofs.Common.{◌≡◌, ◌∙◌, ◌<◌, List, ℕ, map, length, get_or, ap, sym, subst, arith}
use Rattle.std.proofs.lemmas.List.{get_or_default}
use Rattle.math_theory.specs.Interpolation.{AreWeightsAt, IsFirstPlace}
use Rattle.math_theory.specs.Powers.{power}
use Rattle.math_theory.specs.Recovery.{count_true}
use Rattle.math_theory.proofs.interpolation.CarriedInterpolation.{weights_at_place}
use Rattle.math_theory.proofs.interpolation.CarriedRootWeights as Carried
use Rattle.math_base.specs.Members.{RingOf}
use Rattle.math_transforms.specs.RootWeights.{ArePointsAt}
use Rattle.math_lagrange.proofs.RootWeightCases.{places-count, places-inside, points-at, gathered-points}
use Rattle.math_lagrange.proofs.weights.weights_at.Goals as goal

pub copies_at-requires : goal.copies_at-requires
copies_at-requires g c = places-inside c.args.present c.args.places.now c.requires.places _ (ap length c.deref.ensures.value ∙ c.in_ok-domain.ensures.count ∙ sym c.requires.size)

pub weights_at_missing-requires-clause-points : goal.weights_at_missing-requires-clause-points
weights_at_missing-requires-clause-points g c =
    let Q : RingOf g.row.F.Denot = record {
      product = g.F.Multiplicative.product;
      debug_output = g.F.Debug.debug_output;
      same = g.F.Object.same;
      NEVER_REFUSES = g.F.Object.NEVER_REFUSES;
      zero = g.F.Additive.zero;
      sum = g.F.Additive.sum;
      negative = g.F.Additive.negative;
      one = g.F.Ring.one;
    } in
    rw c.deref-in-Some-2.ensures.value
    (gathered-points Q g.met.F.Object.equality
    (g.F.FieldNTT.root c.args.lg) _ c.in_ok-domain.domain.items c.deref.result.now c.in_ok-points.points.items c.args.places.now c.deref.ensures.value c.in_ok-points.ensures.count
    c.in_ok-domain.ensures.powers (places-inside c.args.present c.args.places.now c.requires.places _ (sym c.requires.size)) c.in_ok-points.ensures.items)

pub weights_at_missing-requires-clause-missing : goal.weights_at_missing-requires-clause-missing
weights_at_missing-requires-clause-missing g c =
    let E = g.met.F.Object.equality in
    let m = c.in-Some-2.m in
    let domain = c.in_ok-domain.domain.items in
    let first : IsFirstPlace g.F.Object.same c.args.x.now domain m = rw c.deref-3.ensures.value at (rw c.in-Some-2.is at c.in_ok-m.ensures.some) in
    E.transitive _ _ _ (E.symmetric _ _ (c.in_ok-domain.ensures.powers m (omega (arith, first.0, c.in_ok-domain.ensures.count))))
    (subst (λ p. g.F.Object.same p c.args.x.now) (get_or_default domain m c.args.x.now g.F.Additive.zero first.0) first.1)

pub weights_outside-requires-clause-points : goal.weights_outside-requires-clause-points
weights_outside-requires-clause-points g c =
    let Q : RingOf g.row.F.Denot = record {
      product = g.F.Multiplicative.product;
      debug_output = g.F.Debug.debug_output;
      same = g.F.Object.same;
      NEVER_REFUSES = g.F.Object.NEVER_REFUSES;
      zero = g.F.Additive.zero;
      sum = g.F.Additive.sum;
      negative = g.F.Additive.negative;
      one = g.F.Ring.one;
    } in
    rw c.deref-4.ensures.value
    (gathered-points Q g.met.F.Object.equality
    (g.F.FieldNTT.root c.args.lg) _ c.in_ok-domain.domain.items c.deref.result.now c.in_ok-points.points.items c.args.places.now c.deref.ensures.value c.in_ok-points.ensures.count
    c.in_ok-domain.ensures.powers (places-inside c.args.present c.args.places.now c.requires.places _ (sym c.requires.size)) c.in_ok-points.ensures.items)

pub returns-in-Some : goal.returns-in-Some
returns-in-Some g c =
    let F = g.met.F in
    let Q : RingOf g.row.F.Denot = record {
      product = g.F.Multiplicative.product;
      debug_output = g.F.Debug.debug_output;
      same = g.F.Object.same;
      NEVER_REFUSES = g.F.Object.NEVER_REFUSES;
      zero = g.F.Additive.zero;
      sum = g.F.Additive.sum;
      negative = g.F.Additive.negative;
      one = g.F.Ring.one;
    } in
    let E = F.Object.equality in
    let zero = g.F.Additive.zero in
    let lg = c.args.lg in
    let w = g.F.FieldNTT.root lg in
    let filled = c.args.present in
    let places = c.args.places.now in
    let x = c.args.x.now in
    let k = c.in-Some.k in
    let points = c.in_ok-points.points.items in
    let o = F.FieldNTT.roots.order lg c.requires.domain.0 in
    let count : length places ≡ count_true filled = places-count filled places c.requires.places in
    let many : length points ≡ count_true filled = c.in_ok-points.ensures.count ∙ count in
    let first : IsFirstPlace g.F.Object.same x points k = rw c.deref-2.ensures.value at (rw c.in-Some.is at c.in_ok-k.ensures.some) in
    let at : ArePointsAt Q w places points =
    gathered-points Q g.met.F.Object.equality
    (g.F.FieldNTT.root c.args.lg) _ c.in_ok-domain.domain.items c.deref.result.now c.in_ok-points.points.items c.args.places.now c.deref.ensures.value c.in_ok-points.ensures.count
    c.in_ok-domain.ensures.powers (places-inside c.args.present c.args.places.now c.requires.places _ (sym c.requires.size)) c.in_ok-points.ensures.items in
    let l : k < count_true filled = omega (arith, first.0, many) in
    let here : g.F.Object.same (get_or points k zero) x = subst (λ p. g.F.Object.same p x) (get_or_default points k x zero first.0) first.1 in
    let same = E.transitive _ _ _ (E.symmetric _ _ (points-at filled places c.requires.places Q w points at k l)) here in
    let present = Carried.present E F.Additive.group F.Multiplicative.commutes F.Ring.ring F.Field.field lg w filled c.requires.size o in
    let long : length present ≡ count_true filled = Carried.length-present E F.Additive.group F.Multiplicative.commutes F.Ring.ring F.Field.field lg w filled c.requires.size o in
    subst (λ (is : List ℕ). AreWeightsAt g.F.Object.same zero g.F.Additive.sum g.F.Multiplicative.product g.F.Ring.one x
    (map (power g.F.Ring.one g.F.Multiplicative.product w) is) c.in_ok-out-2.out.items)
    (sym c.requires.places)
    (weights_at_place E F.Additive.group F.Multiplicative.commutes F.Ring.ring F.Field.field x present c.in_ok-out-2.out.items k
    (Carried.present-apart E F.Additive.group F.Multiplicative.commutes F.Ring.ring F.Field.field lg w filled c.requires.size o) (omega (arith, l, long))
    (subst (λ p. g.F.Object.same p x) (sym (Carried.present-place E F.Additive.group F.Multiplicative.commutes F.Ring.ring F.Field.field lg w filled c.requires.size o k l)) same)
    (omega (arith, c.in_ok-out-2.ensures.count, c.len.ensures, c.in_ok-points.points.ok, many, long)) c.in_ok-out-2.ensures.items)
