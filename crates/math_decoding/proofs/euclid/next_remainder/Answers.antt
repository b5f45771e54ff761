use Rattle.std.proofs.Common.{◌-◌, length, ap, arith}
use Rattle.math_decoding.proofs.CoefficientLists.{degree-once}
use Rattle.math_decoding.proofs.DecodingSteps.{not_zero, remainders-next}
use Rattle.math_decoding.proofs.euclid.next_remainder.Goals as goal

pub divide-requires : goal.divide-requires
divide-requires g c =
    let F = g.met.F in
    rw c.deref-2.ensures.value (not_zero F.Object.equality F.Additive.group F.Multiplicative.commutes F.Ring.ring F.Field.field
    c.args.last.now.coefficients.items _ (c.requires.turn.2.degree' c.requires.some))

pub less_product-requires-clause-some : goal.less_product-requires-clause-some
less_product-requires-clause-some g c =
    let F = g.met.F in
    let (n, d) = rw (c.deref.ensures.value, c.deref-2.ensures.value) at c.in_ok-quotient.ensures in
    let e = degree-once g.F.Additive.zero F.Object.equality c.args.last.now.coefficients.items n (length c.args.last.now.coefficients.items - 1) d.degree (c.requires.turn.2.degree' c.requires.some) in
    omega (arith, ap length c.deref-4.ensures.value, d.quotient, e, c.requires.turn.2.shorter, c.requires.some)

pub less_product-requires-clause-shorter : goal.less_product-requires-clause-shorter
less_product-requires-clause-shorter g c = omega (arith, ap length c.deref-3.ensures.value, ap length c.deref-5.ensures.value, c.requires.turn.2.longer)

pub returns : goal.returns
returns g c = λ points values s.
    let F = g.met.F in
    let (n, d) = rw (c.deref.ensures.value, c.deref-2.ensures.value) at c.in_ok-quotient.ensures in
    remainders-next F.Object.equality F.Additive.group F.Multiplicative.commutes F.Ring.ring F.Field.field points values
    c.args.before.now.coefficients.items c.args.before.now.factor.items c.args.last.now.coefficients.items c.args.last.now.factor.items
    c.in_ok-quotient.quotient.items c.in_ok-quotient.remainder.items c.in_ok-coefficients.coefficients.items c.in_ok-factor.factor.items n
    c.requires.some d.degree d.quotient d.division
    (rw (c.deref-4.ensures.value, c.deref-5.ensures.value) at c.in_ok-factor.ensures.length)
    (rw (c.deref-3.ensures.value, c.deref-4.ensures.value, c.deref-5.ensures.value) at c.in_ok-factor.ensures.ok)
    c.in_ok-coefficients.ensures.length d.remainder c.in_ok-coefficients.ensures.same c.in_ok-coefficients.ensures.trimmed s
