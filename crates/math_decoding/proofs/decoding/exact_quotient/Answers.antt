use Rattle.std.proofs.Common.{◌-◌, arith}
use Rattle.math_decoding.proofs.DecodingSteps.{inexact-remainder, inexact-quotient, exact-quotient}
use Rattle.math_decoding.proofs.decoding.exact_quotient.Goals as goal

pub returns-then-branch-gt0-clause-none : goal.returns-then-branch-gt0-clause-none
returns-then-branch-gt0-clause-none g c = λ q l.
    let F = g.met.F in
    let (n, d) = c.in_ok-quotient.ensures in
    inexact-remainder F.Object.equality F.Additive.group F.Multiplicative.commutes F.Ring.ring F.Field.field n (c.in_ok-count_before_zeros.field-0 - 1) c.args.p.now c.args.d.now
    c.in_ok-quotient.quotient.items c.in_ok-quotient.remainder.items d.degree d.division
    (rw c.deref.ensures.value at (c.in_ok-count_before_zeros.ensures.last c.if-branch-gt0.true)) q

pub returns-in_default-clause-none : goal.returns-in_default-clause-none
returns-in_default-clause-none g c = λ q l.
    let F = g.met.F in
    let (n, d) = c.in_ok-quotient.ensures in
    inexact-quotient F.Object.equality F.Additive.group F.Multiplicative.commutes F.Ring.ring F.Field.field n c.args.count c.args.p.now c.args.d.now
    c.in_ok-quotient.quotient.items c.in_ok-quotient.remainder.items d.degree d.division
    (rw (c.in_default.is, c.deref-2.ensures.value) at c.in_ok-coefficients.ensures.none) q l

pub returns-clause-some : goal.returns-clause-some
returns-clause-some g c =
    let F = g.met.F in
    let (n, d) = c.in_ok-quotient.ensures in
    let all = rw (c.in-Some.is, c.deref-2.ensures.value) at c.in_ok-coefficients.ensures.some in (
      all.0,
      exact-quotient F.Object.equality F.Additive.group F.Multiplicative.commutes F.Ring.ring F.Field.field n c.args.p.now c.args.d.now
          c.in_ok-quotient.quotient.items c.in_ok-quotient.remainder.items c.in-Some.coefficients.items d.division
          (λ i l. rw c.deref.ensures.value at (c.in_ok-count_before_zeros.ensures.zeros i (omega (arith, c.if-branch-gt0.false)))) all.1,
    )
