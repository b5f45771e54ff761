use Rattle.std.proofs.Common.{◌≡◌, ◌<◌, ◌∷◌, ◌++◌, [], length, take, drop, get_or, ◌∙◌, ap, arith}
use Rattle.std.proofs.lemmas.List.{get_or_default}
use Rattle.math_theory.specs.Coefficients.{HaveSameCoefficients, polynomial_difference, polynomial_multiple}
use Rattle.math_theory.proofs.polynomials.BuiltPolynomials.{value-of_one}
use Rattle.math_decoding.proofs.CoefficientLists.{padded-pushed}
use Rattle.math_decoding.proofs.DivisionSteps.{written-back}
use Rattle.math_decoding.proofs.SubtractedMultiples.{less-respects}
use Rattle.math_decoding.proofs.InterpolationSteps.{product-next, leading-next, fits-next, product-degree, product-zeros}
use Rattle.math_decoding.proofs.interpolation.interpolate_with_product.Goals as goal

pub loop-i-init : goal.loop-i-init
loop-i-init g c =
    let F = g.met.F in
    let items : c.push.new.self.items ≡ c.in_ok-one.field-0 ∷ [] = c.in_ok-push.ensures.items ∙ ap (λ xs. xs ++ (c.in_ok-one.field-0 ∷ [])) c.new-product.ensures.items in
    record {
      long = ap length items;
      leading = rw items c.in_ok-one.ensures.ok;
      roots = λ r. value-of_one F.Object.equality F.Additive.group F.Multiplicative.commutes F.Ring.ring r c.in_ok-one.field-0 c.push.new.self.items items c.in_ok-one.ensures.ok;
      count = ap length c.new-through.ensures.items;
      fits = λ k l. absurd (omega arith);
    }

pub loop-i-preserved : goal.loop-i-preserved
loop-i-preserved g c =
    let F = g.met.F in
    let zero = g.F.Additive.zero in
    let i = c.loop-i.i in
    let inv = c.loop-i.invariant in
    let points = c.args.points.now in
    let values = c.args.values.now in
    let before = c.push-in-loop-i.new.self.items in
    let new = c.subtract_multiple.new.p in
    let long : length new ≡ length before = c.in_ok-subtract_multiple.ensures.length ∙ ap length c.deref_mut.ensures.value in
    let back : take c.push-in-loop-i.new.self.len (new ++ drop (length new) before) ≡ new = written-back c.push-in-loop-i.new.self.len new before (omega (arith, long)) long in
    let factor = c.mul_assign.new.self in
    let in_points : i < length points = c.loop-i-test.true in
    let in_values : i < length values = omega (arith, in_points, c.requires.lengths) in
    let point : c.index-points-i.result ≡ get_or points i zero = c.index-points-i.is ∙ get_or_default points i c.index-points-i.result zero in_points in
    let point' : c.index-points-i-in-loop-i.result ≡ get_or points i zero = c.index-points-i-in-loop-i.is ∙ get_or_default points i c.index-points-i-in-loop-i.result zero in_points in
    let value : c.index-values-i.result ≡ get_or values i zero = c.index-values-i.is ∙ get_or_default values i c.index-values-i.result zero in_values in
    let taken : HaveSameCoefficients g.F.Object.same zero new
    (polynomial_difference g.F.Additive.sum g.F.Additive.negative c.loop-i.through.items (polynomial_multiple g.F.Multiplicative.product c.loop-i.product.items factor)) =
    less-respects F.Object.equality F.Additive.group F.Multiplicative.commutes F.Ring.ring 0 before c.loop-i.through.items new c.loop-i.product.items factor
    (rw c.in_ok-push-2.ensures.items
    (padded-pushed zero F.Object.equality c.loop-i.through.items c.loop-i.through.items c.in_ok-zero.field-0 (omega arith) (λ j. F.Object.equality.reflexive _) c.in_ok-zero.ensures.ok))
    (rw (c.deref_mut.ensures.value, c.deref-in-loop-i-2.ensures.value) at c.in_ok-subtract_multiple.ensures.ok) in
    record {
      long = omega (arith, c.in_ok-product.ensures.length, inv.long);
      leading = leading-next F.Object.equality F.Additive.group F.Multiplicative.commutes F.Ring.ring c.loop-i.product.items c.in_ok-product.product.items i c.index-points-i-in-loop-i-2.result
          (omega (arith, inv.long)) c.in_ok-product.ensures.ok inv.leading;
      roots = product-next F.Object.equality F.Additive.group F.Multiplicative.commutes F.Ring.ring points c.loop-i.product.items c.in_ok-product.product.items i c.index-points-i-in-loop-i-2.result
          in_points c.index-points-i-in-loop-i-2.is c.in_ok-product.ensures.ok inv.roots;
      count = rw back (omega (arith, long, c.in_ok-push-2.ensures.len, inv.count));
      fits = rw back (fits-next F.Object.equality F.Additive.group F.Multiplicative.commutes F.Ring.ring F.Field.field points values c.loop-i.through.items c.loop-i.product.items new i
          c.in_ok-c.c c.sub_assign.new.self c.in_ok-divisor.divisor c.in_ok-inv.field-0 factor c.requires.apart in_points inv.roots inv.fits
          (rw (c.deref.ensures.value, point) at c.in_ok-c.ensures) (rw value at c.in_ok-sub_assign.ensures.ok)
          (rw (c.deref-in-loop-i.ensures.value, point') at c.in_ok-divisor.ensures) c.in_ok-inv.ensures.ok c.in_ok-mul_assign.ensures.ok taken);
    }

pub returns-clause-product : goal.returns-clause-product
returns-clause-product g c =
    let F = g.met.F in
    let e : c.loop-i.i ≡ length c.args.points.now = omega (arith, c.loop-i-test.false, c.loop-i.auto.i-end) in (
      omega (arith, c.loop-i.invariant.long, e),
      product-degree F.Object.equality F.Additive.group F.Multiplicative.commutes F.Ring.ring F.Field.field c.loop-i.product.items (length c.args.points.now)
          (omega (arith, c.loop-i.invariant.long, e)) (rw e at c.loop-i.invariant.leading),
    )

pub returns-clause-zeros : goal.returns-clause-zeros
returns-clause-zeros g c =
    let F = g.met.F in
    product-zeros F.Object.equality F.Additive.group F.Multiplicative.commutes F.Ring.ring F.Field.field c.args.points.now c.loop-i.product.items c.loop-i.i
    c.loop-i-test.false c.loop-i.invariant.roots

pub returns-clause-through : goal.returns-clause-through
returns-clause-through g c = λ i l. c.loop-i.invariant.fits i (omega (arith, l, c.loop-i-test.false))
