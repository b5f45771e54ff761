use Rattle.std.proofs.Common.{◌≡◌, ◌++◌, [], ◌∷◌, ◌∙◌, take, arith}
use Rattle.std.proofs.lemmas.List.{length_push, take_all}
use Rattle.math_theory.proofs.polynomials.ScaledPoint.{value_over-scaled_point}
use Rattle.math_poly.proofs.PlaceByPlace.{AllZip-next}
use Rattle.math_poly.proofs.poly.Poly.commit.Goals as goal

pub loop-scalar-preserved : goal.loop-scalar-preserved
loop-scalar-preserved g c =
    let G = g.met.G in
    let E = G.Object.equality in
    let elements = c.loop-scalar.coefficients.items in
    let scalar = c.scalar-item.result in
    let element = c.scale_assign.new.self in
    let pushed : c.push_reserved.new.self.items ≡ elements ++ (element ∷ []) = c.push_reserved.ensures.items in
    let generator = E.transitive _ _ _ c.in_ok-element.ensures.ok c.in_ok-generator.ensures.ok in
    let scaled = E.transitive _ _ _ c.in_ok-scale_assign.ensures.ok (G.Space.spans.respects_points _ _ scalar generator) in
    rw pushed record {
      count = omega (arith, length_push elements element, c.loop-scalar.invariant.count);
      room = c.push_reserved.ensures.capacity ∙ c.loop-scalar.invariant.room;
      each = AllZip-next _ c.deref-scalar-items.result.now elements c.loop-scalar.scalar-index scalar element c.loop-scalar-test.true c.scalar-item.is c.loop-scalar.invariant.each scaled;
    }

pub returns-clause-values : goal.returns-clause-values
returns-clause-values g c x =
    let G = g.met.G in
    let scalars : c.deref-scalar-items.result.now ≡ c.args.p = cc in
    let all : take c.loop-scalar.scalar-index c.args.p ≡ c.args.p = take_all c.loop-scalar.scalar-index c.args.p (rw scalars at c.loop-scalar-test.false) in
    value_over-scaled_point G.Object.equality G.Additive.group G.Space.spans g.G.CryptoGroup.generator x c.args.p c.loop-scalar.coefficients.items (rw (scalars, all) at c.loop-scalar.invariant.each)
