use Rattle.std.proofs.Common.{◌≡◌, ◌∙◌, ◌<◌, List, ℕ, map, length, get_or, ap, sym, subst, arith}
use Rattle.std.proofs.lemmas.List.{get_or_default}
use Rattle.std.specs.List.{All}
use Rattle.math_theory.specs.Interpolation.{AreWeightsAt}
use Rattle.math_theory.specs.Powers.{power}
use Rattle.math_theory.specs.Recovery.{count_true}
use Rattle.math_theory.proofs.interpolation.CarriedRootWeights as Carried
use Rattle.math_base.specs.Members.{RingOf}
use Rattle.math_transforms.proofs.PresentIndices.{domain-of}
use Rattle.math_lagrange.proofs.RootWeightCases.{places-count, places-inside, gathered-at, points-at, column-values}
use Rattle.math_lagrange.proofs.weights.weights_outside.Goals as goal

pub vanishing-requires-clause-domain : goal.vanishing-requires-clause-domain
vanishing-requires-clause-domain g c = domain-of _ _ c.args.lg c.requires.size c.requires.domain.0

pub vanishing-requires-clause-some : goal.vanishing-requires-clause-some
vanishing-requires-clause-some g c = omega (arith, c.requires.some, places-count c.args.present.now c.args.places.now c.requires.places)

pub copies_at-requires : goal.copies_at-requires
copies_at-requires g c =
    places-inside c.args.present.now c.args.places.now c.requires.places _
    (ap length c.values.ensures ∙ (c.in_ok-column.ensures.vanishing c.args.lg c.requires.size).lengths)

pub value_at-requires : goal.value_at-requires
value_at-requires g c = domain-of _ _ c.args.lg ((c.in_ok-column.ensures.vanishing c.args.lg c.requires.size).lengths ∙ c.requires.size) c.requires.domain.0

pub returns : goal.returns
returns g c =
    let F = g.met.F in
    let Q : RingOf g.row.F.Denot = record {
      product = g.F.Multiplicative.product;
      debug_output = g.F.Debug.debug_output;
      same = g.F.Object.same;
      NEVER_REFUSES = g.F.Object.NEVER_REFUSES;
      zero = g.F.Additive.zero;
      sum = g.F.Additive.sum;
      negative = g.F.Additive.negative;
      one = g.F.Ring.one;
    } in
    let E = F.Object.equality in
    let G = F.Additive.group in
    let P = F.Multiplicative.commutes in
    let R = F.Ring.ring in
    let I = F.Field.field in
    let lg = c.args.lg in
    let w = g.F.FieldNTT.root lg in
    let zero = g.F.Additive.zero in
    let filled = c.args.present.now in
    let places = c.args.places.now in
    let points = c.args.points.now in
    let x = c.args.x.now in
    let h = c.requires.size in
    let o = F.FieldNTT.roots.order lg c.requires.domain.0 in
    let V = c.in_ok-column.ensures.vanishing lg h in
    let at_zero = c.in_ok-column.field-0-0 in
    let column = c.in_ok-column.column in
    let vx = c.in_ok-factor.factor in
    let n = c.in_ok-size.size in
    let vs = c.in_ok-values.values.items in
    let ds = c.in_ok-divisors.divisors.items in
    let qs = c.in_ok-quotients.quotients.items in
    let count : length places ≡ count_true filled = places-count filled places c.requires.places in
    let many : length points ≡ count_true filled = c.requires.points.count ∙ count in
    let divisors : length ds ≡ count_true filled = c.in_ok-divisors.ensures.count ∙ many in
    let quotients : length qs ≡ count_true filled = c.in_ok-quotients.ensures.count ∙ ap length c.deref.ensures.value ∙ divisors in
    let multiples : length c.in_ok-multiples.multiples.items ≡ count_true filled = c.in_ok-multiples.ensures.count ∙ quotients in
    let value = c.in_ok-factor.ensures in
    let long : length value.0 ≡ length filled = value.1 ∙ V.lengths in
    let outside : (i : ℕ) → i < length filled → ¬ (g.F.Object.same (power g.F.Ring.one g.F.Multiplicative.product w i) x) = λ i l. c.requires.outside i (omega (arith, l, h)) in
    let at_x =
    Carried.value_of_coefficients E G P R I lg w filled h o at_zero column V x vx value.0 (omega (arith, c.requires.some, count)) (omega (arith, long)) value.3
    (λ i l. E.symmetric _ _ (column-values Q g.F.FieldNTT.root value.0 column lg value.2 (long ∙ h) i (omega (arith, l, long)))) in
    let point = points-at filled places c.requires.places Q w points c.requires.points in
    let divisor : (k : ℕ) → k < count_true filled
    → g.F.Object.same (get_or ds k zero) (g.F.Multiplicative.product (g.F.Multiplicative.product vx n) (g.F.Additive.sum x (g.F.Additive.negative (get_or points k zero)))) =
    λ k l. E.transitive _ _ _ (c.in_ok-divisors.ensures.each k (omega (arith, l, many))) (P.respects _ _ _ _ c.in_ok-mul_assign.ensures.ok (E.reflexive _)) in
    let nonzero : All (λ d. ¬ (g.F.Object.same d zero)) ds =
    λ k d l. let m : k < count_true filled = omega (arith, l, divisors) in
    subst (λ e. ¬ (g.F.Object.same e zero)) (get_or_default ds k zero d l)
    (Carried.divisor-nonzero E G P R I lg w filled h o at_zero column V x vx outside at_x n (get_or ds k zero) (get_or points k zero) k m c.in_ok-size.ensures (point k m) (divisor k m)) in
    let quotient = rw c.deref.ensures.value at c.in_ok-quotients.ensures.each in
    let last = rw c.deref-2.ensures.value at c.in_ok-out.ensures.each in
    subst (λ (is : List ℕ). AreWeightsAt g.F.Object.same zero g.F.Additive.sum g.F.Multiplicative.product g.F.Ring.one x
    (map (power g.F.Ring.one g.F.Multiplicative.product w) is) c.in_ok-out.out.items)
    (sym c.requires.places)
    (Carried.weights_outside E G P R I lg w filled h o at_zero column V x vx outside at_x n c.in_ok-numerator.numerator points ds qs vs c.in_ok-out.out.items
    c.in_ok-size.ensures c.in_ok-numerator.ensures (c.in_ok-out.ensures.count ∙ multiples) point
    (gathered-at filled places c.requires.places g.F.Object.same zero vs c.values.result.now column c.values.ensures c.in_ok-values.ensures.items)
    divisor
    (λ k l. quotient nonzero k (omega (arith, l, divisors)))
    (λ k l. E.transitive _ _ _ (last k (omega (arith, l, multiples))) (P.respects _ _ _ _ (c.in_ok-multiples.ensures.each k (omega (arith, l, quotients))) (E.reflexive (get_or vs k zero)))))
