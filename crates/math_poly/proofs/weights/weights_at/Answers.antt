use Rattle.std.proofs.Common.{◌≡◌, ◌∙◌, ◌<◌, ℕ, length, ap, get_or, arith}
use Rattle.math_theory.specs.Interpolation.{weight_divisor}
use Rattle.math_theory.proofs.interpolation.CarriedInterpolation.{weights_same}
use Rattle.math_poly.proofs.WeightLoops.{place-weights, quotients-weights, quotients-repeated}
use Rattle.math_poly.proofs.weights.weights_at.Goals as goal

pub returns-in-Some-clause-weights : goal.returns-in-Some-clause-weights
returns-in-Some-clause-weights g c =
    let F = g.met.F in
    place-weights F.Object.equality F.Additive.group F.Multiplicative.commutes F.Ring.ring F.Field.field c.args.x.now c.args.points.now c.in_ok-out.out.items c.in-Some.k
    (rw c.in-Some.is at c.in_ok-k.ensures.some)
    c.in_ok-out.ensures.count c.in_ok-out.ensures.items

pub returns-in-Some-clause-only : goal.returns-in-Some-clause-only
returns-in-Some-clause-only g c = λ d others W.
    let F = g.met.F in
    weights_same F.Object.equality F.Additive.group F.Multiplicative.commutes F.Ring.ring F.Field.field c.args.x.now c.args.points.now c.in_ok-out.out.items others d
    (returns-in-Some-clause-weights g c d) W

pub returns-clause-repeated : goal.returns-clause-repeated
returns-clause-repeated g c = λ outside.
    let F = g.met.F in
    let zero = g.F.Additive.zero in
    let divisors = c.loop-i.divisors.items in
    let count : length divisors ≡ length c.args.points.now = omega arith in
    let each : (k : ℕ) → k < length c.args.points.now
    → g.F.Object.same (get_or divisors k zero) (weight_divisor zero g.F.Additive.sum g.F.Additive.negative g.F.Multiplicative.product g.F.Ring.one c.args.x.now c.args.points.now k) =
    λ k l. c.loop-i.invariant.each k (omega arith) in
    quotients-repeated F.Object.equality F.Additive.group F.Multiplicative.commutes F.Ring.ring F.Field.field c.args.x.now c.args.points.now divisors c.in_ok-out-2.out.items
    c.in_ok-numerator.numerator c.in_ok-one.one count each
    c.in_ok-one.ensures.ok c.in_ok-numerator.ensures outside (rw c.deref.ensures.value at c.in_ok-out-2.ensures.zeros)

pub returns-clause-weights : goal.returns-clause-weights
returns-clause-weights g c =
    let F = g.met.F in
    let zero = g.F.Additive.zero in
    let divisors = c.loop-i.divisors.items in
    let count : length divisors ≡ length c.args.points.now = omega arith in
    let each : (k : ℕ) → k < length c.args.points.now
    → g.F.Object.same (get_or divisors k zero) (weight_divisor zero g.F.Additive.sum g.F.Additive.negative g.F.Multiplicative.product g.F.Ring.one c.args.x.now c.args.points.now k) =
    λ k l. c.loop-i.invariant.each k (omega arith) in
    quotients-weights F.Object.equality F.Additive.group F.Multiplicative.commutes F.Ring.ring F.Field.field c.args.x.now c.args.points.now divisors c.in_ok-out-2.out.items
    c.in_ok-numerator.numerator c.in_ok-one.one count each
    c.in_ok-one.ensures.ok c.in_ok-numerator.ensures (c.in_ok-k.ensures.none c.in_default.is) (rw c.deref.ensures.value at c.in_ok-out-2.ensures.each)
    (c.in_ok-out-2.ensures.count ∙ ap length c.deref.ensures.value)

pub returns-clause-only : goal.returns-clause-only
returns-clause-only g c = λ d others W.
    let F = g.met.F in
    weights_same F.Object.equality F.Additive.group F.Multiplicative.commutes F.Ring.ring F.Field.field c.args.x.now c.args.points.now c.in_ok-out-2.out.items others d (returns-clause-weights g c d) W
