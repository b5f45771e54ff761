use Rattle.math_decoding.proofs.DecodingSteps.{decoded-few, decoded-only, decoded-none}
use Rattle.math_decoding.proofs.decoding.decode.Goals as goal

pub returns-in_default-clause-none : goal.returns-in_default-clause-none
returns-in_default-clause-none g c =
    let F = g.met.F in
    decoded-none F.Object.equality F.Additive.group F.Multiplicative.commutes F.Ring.ring F.Field.field c.args.points.now c.args.values.now
    c.in_ok-last.last.coefficients.items c.in_ok-last.last.factor.items c.args.count c.requires.apart
    c.in_ok-last.ensures.kept c.in_ok-last.ensures.short c.in_ok-last.ensures.small
    (rw (c.in_default.is, c.deref.ensures.value, c.deref-2.ensures.value) at c.in_ok-coefficients.ensures.none)

pub returns-clause-found : goal.returns-clause-found
returns-clause-found g c =
    let F = g.met.F in
    let some = rw (c.in-Some.is, c.deref.ensures.value, c.deref-2.ensures.value) at c.in_ok-coefficients.ensures.some in
    let places = rw c.deref-3.ensures.value at c.in_ok-wrong.ensures in
    let few = decoded-few F.Object.equality F.Additive.group F.Multiplicative.commutes F.Ring.ring F.Field.field c.args.points.now c.args.values.now
    c.in_ok-last.last.coefficients.items c.in_ok-last.last.factor.items c.in-Some.coefficients.items c.args.count c.in_ok-wrong.wrong.items c.requires.apart
    c.in_ok-last.ensures.kept c.in_ok-last.ensures.factor c.in_ok-last.ensures.small some.1 places in
    record {
      number = some.0;
      places = places;
      few = few;
      only = decoded-only F.Object.equality F.Additive.group F.Multiplicative.commutes F.Ring.ring F.Field.field c.args.points.now c.args.values.now
          c.in-Some.coefficients.items c.args.count c.in_ok-wrong.wrong.items c.requires.apart c.requires.count some.0 places few;
    }
