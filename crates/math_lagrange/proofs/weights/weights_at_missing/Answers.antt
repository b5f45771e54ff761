use Rattle.std.proofs.Common.{◌≡◌, ◌∙◌, ◌<◌, List, ℕ, Bool, true, map, length, get_or, ap, sym, subst, arith}
use Rattle.std.proofs.lemmas.List.{length-set, get_or_read}
use Rattle.math_theory.specs.Interpolation.{AreWeightsAt}
use Rattle.math_theory.specs.Powers.{power}
use Rattle.math_theory.specs.Recovery.{count_true}
use Rattle.math_theory.specs.Vanishing.{IsVanishing}
use Rattle.math_theory.proofs.interpolation.CarriedRootWeights as Carried
use Rattle.math_base.specs.Members.{RingOf}
use Rattle.math_transforms.proofs.PresentIndices.{domain-of}
use Rattle.math_lagrange.proofs.RootWeightCases.{places-count, places-inside, gathered-at, points-at, missing-false, some-set}
use Rattle.math_lagrange.proofs.weights.weights_at_missing.Goals as goal

pub vanishing-requires-clause-domain : goal.vanishing-requires-clause-domain
vanishing-requires-clause-domain g c = domain-of _ _ c.args.lg (ap length c.set_non_vanishing.ensures ∙ length-set c.args.present c.args.m true ∙ c.requires.size) c.requires.domain.0

pub vanishing-requires-clause-some : goal.vanishing-requires-clause-some
vanishing-requires-clause-some g c = rw c.set_non_vanishing.ensures (some-set c.args.present c.args.m (omega (arith, c.requires.inside, c.requires.size)))

pub copies_at-requires : goal.copies_at-requires
copies_at-requires g c =
    let size = ap length c.set_non_vanishing.ensures ∙ length-set c.args.present c.args.m true in
    places-inside c.args.present c.args.places.now c.requires.places _ (ap length c.values-values.ensures ∙ (c.in_ok-column.ensures.vanishing c.args.lg (size ∙ c.requires.size)).lengths ∙ size)

pub returns : goal.returns
returns g c =
    let F = g.met.F in
    let Q : RingOf g.row.F.Denot = record {
      product = g.F.Multiplicative.product;
      debug_output = g.F.Debug.debug_output;
      same = g.F.Object.same;
      NEVER_REFUSES = g.F.Object.NEVER_REFUSES;
      zero = g.F.Additive.zero;
      sum = g.F.Additive.sum;
      negative = g.F.Additive.negative;
      one = g.F.Ring.one;
    } in
    let E = F.Object.equality in
    let G = F.Additive.group in
    let P = F.Multiplicative.commutes in
    let I = F.Field.field in
    let lg = c.args.lg in
    let w = g.F.FieldNTT.root lg in
    let zero = g.F.Additive.zero in
    let filled = c.args.present in
    let places = c.args.places.now in
    let points = c.args.points.now in
    let x = c.args.x.now in
    let m = c.args.m in
    let h = c.requires.size in
    let inside : m < length filled = omega (arith, c.requires.inside, h) in
    let size = ap length c.set_non_vanishing.ensures ∙ length-set filled m true in
    let column = c.in_ok-column.column in
    let V =
    subst (λ (f : List Bool). IsVanishing g.F.Object.same zero g.F.Additive.sum g.F.Additive.negative g.F.Multiplicative.product g.F.Ring.one w f c.in_ok-column.field-0-0 column)
    c.set_non_vanishing.ensures
    (c.in_ok-column.ensures.vanishing lg (size ∙ h)) in
    let vs = c.in_ok-values.values.items in
    let count : length places ≡ count_true filled = places-count filled places c.requires.places in
    let values : length vs ≡ count_true filled = c.in_ok-values.ensures.count ∙ count in
    let multiples : length c.in_ok-multiples.multiples.items ≡ count_true filled = c.in_ok-multiples.ensures.count ∙ values in
    let point = points-at filled places c.requires.places Q w points c.requires.points in
    let read : c.index-values-m.result ≡ get_or column m zero =
    get_or_read c.values-values.result.now m c.index-values-m.result (omega (arith, ap length c.values-values.ensures, V.lengths, length-set filled m true, inside)) c.index-values-m.is zero
    ∙ ap (λ (xs : List g.row.F.Denot). get_or xs m zero) c.values-values.ensures in
    let divided : g.F.Object.same c.mul_assign.new.self (g.F.Multiplicative.product x (get_or column m zero)) =
    E.transitive _ _ _ c.in_ok-mul_assign.ensures.ok (rw read (P.respects _ _ _ _ c.in_ok-divisor.ensures.ok (E.reflexive (get_or column m zero)))) in
    let factor =
    E.transitive _ _ _ c.in_ok-factor.ensures.ok (I.respects _ _ (E.transitive _ _ _ c.in_ok-neg.ensures.ok (G.respects_negative _ _ divided))) in
    subst (λ (is : List ℕ). AreWeightsAt g.F.Object.same zero g.F.Additive.sum g.F.Multiplicative.product g.F.Ring.one x
    (map (power g.F.Ring.one g.F.Multiplicative.product w) is) c.in_ok-out.out.items)
    (sym c.requires.places)
    (Carried.weights_at_missing E G P F.Ring.ring I lg w filled h (F.FieldNTT.roots.order lg c.requires.domain.0) m inside
    (missing-false filled places c.requires.places Q E w x points m c.requires.points c.requires.outside inside c.requires.missing)
    c.in_ok-column.field-0-0 column V x c.in_ok-factor.factor points vs c.in_ok-out.out.items c.requires.missing factor (c.in_ok-out.ensures.count ∙ multiples)
    (λ k l s. c.requires.outside k zero (omega (arith, l, c.requires.points.count, count)) (E.transitive _ _ _ (point k l) s))
    point
    (gathered-at filled places c.requires.places g.F.Object.same zero vs c.values-values.result.now column c.values-values.ensures c.in_ok-values.ensures.items)
    (λ k l. E.transitive _ _ _ (c.in_ok-out.ensures.each k (omega (arith, l, multiples)))
    (P.respects _ _ _ _ (c.in_ok-multiples.ensures.each k (omega (arith, l, values))) (E.reflexive c.in_ok-factor.factor))))
