use Rattle.std.proofs.Common.{◌≡◌, ◌∙◌, length, ap, sym, arith}
use Rattle.math_poly.proofs.GreatestCount.{greatest_count_next, ord_max_is_max}
use Rattle.math_poly.proofs.poly.algebra.greatest_count.Goals as goal

pub loop-p-preserved : goal.loop-p-preserved
loop-p-preserved g c =
    let same_list = ap length c.p.view_is in
    let count : c.len.result ≡ length c.p-item.result = omega (arith, c.p.inside.coefficients.ok.0) in
    let greater = c.max-count.ensures ∙ ord_max_is_max c.loop-p.count c.len.result in
    record {
      greatest = greater ∙ rw (c.loop-p.invariant.greatest, count) (sym (greatest_count_next _ _ _ c.loop-p-test.true c.p-item.is));
      range = rw greater (omega arith);
    }
