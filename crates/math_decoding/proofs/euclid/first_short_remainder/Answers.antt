use Rattle.std.proofs.Common.{◌≡◌, ◌∷◌, ◌++◌, [], refl, ◌∙◌, ap, arith}
use Rattle.math_decoding.proofs.DecodingSteps.{remainders-begun}
use Rattle.math_decoding.proofs.euclid.first_short_remainder.Goals as goal

pub loop-alloc-init : goal.loop-alloc-init
loop-alloc-init g c =
    let F = g.met.F in
    let items : c.push.new.self.items ≡ c.in_ok-one.field-0 ∷ [] = c.in_ok-push.ensures.items ∙ ap (λ xs. xs ++ (c.in_ok-one.field-0 ∷ [])) c.new-one.ensures.items in
    record {
      remainders = rw (items, c.new.ensures.items) (remainders-begun F.Object.equality F.Additive.group F.Multiplicative.commutes F.Ring.ring F.Field.field c.args.points.now c.args.values.now
          c.in_ok-product.product.items c.in_ok-product.through.items c.in_ok-trim.field-0.items c.in_ok-one.field-0 c.in_ok-one.ensures.ok
          c.in_ok-product.ensures.product.0 c.in_ok-product.ensures.product.1 c.in_ok-product.ensures.zeros
          (omega (arith, c.in_ok-trim.ensures.length, c.in_ok-product.ensures.count)) c.in_ok-product.ensures.through c.in_ok-trim.ensures.same c.in_ok-trim.ensures.trimmed);
      long = omega (arith, c.in_ok-product.ensures.product.0, c.requires.count);
    }

pub next_remainder-requires-clause-turn : goal.next_remainder-requires-clause-turn
next_remainder-requires-clause-turn g c = (c.args.points.now, c.args.values.now, c.loop-alloc.invariant.remainders)

pub loop-alloc-smaller : goal.loop-alloc-smaller
loop-alloc-smaller g c = (c.in_ok-next.ensures c.args.points.now c.args.values.now c.loop-alloc.invariant.remainders).shorter

pub loop-alloc-preserved : goal.loop-alloc-preserved
loop-alloc-preserved g c = record {
  remainders = c.in_ok-next.ensures c.args.points.now c.args.values.now c.loop-alloc.invariant.remainders;
  long = omega (arith, c.loop-alloc-test.ensures.0 refl, c.len.ensures);
}
