use Rattle.std.proofs.Common.{◌≡◌, ◌≤◌, ◌∙◌, [], length, rules, refl}
use Rattle.std.proofs.lemmas.List.{length-set}
use Rattle.math_poly.proofs.PolynomialSums.{sum_begins, sum_continues, sum_ends}
use Rattle.math_poly.proofs.poly.algebra.sum_of.Goals as goal

pub loop-i-init : goal.loop-i-init
loop-i-init g c = record { sum = sum_begins g.met.K.Object.equality g.met.K.Additive.group c.out.inside.coefficients.items []; count = refl }

pub loop-i-preserved : goal.loop-i-preserved
loop-i-preserved g c = record {
  sum = sum_continues g.met.K.Object.equality g.met.K.Additive.group _ _ _ _ _ _ _ c.loop-i-test.true (search rules) c.addend-item.is c.index_mut.ensures.value c.in_ok-add_assign.ensures.ok
      c.loop-i.invariant.sum;
  count = length-set _ _ _ ∙ c.loop-i.invariant.count;
}

pub returns-clause-ok : goal.returns-clause-ok
returns-clause-ok g c =
    let shorter : c.deref-addend-items.result.now ≡ c.by_count.result.0.now = c.deref-addend-items.ensures.value ∙ c.shorter.view_is in
    let ended : length c.by_count.result.0.now ≤ c.loop-i.i = rw shorter at c.loop-i-test.false in
    sum_ends g.met.K.Object.equality g.met.K.Additive.group c.args.a.now c.args.b.now c.by_count.result.0.now c.by_count.result.1.now c.in_ok-out.field-0 c.loop-i.out.items c.loop-i.i
    c.by_count.ensures.both ended
    c.in_ok-out.ensures.ok (rw (shorter, c.out.view_is) at c.loop-i.invariant.sum)
