use Rattle.std.proofs.Common.{arith}
use Rattle.std.proofs.lemmas.List.{get_or_default}
use Rattle.math_decoding.proofs.CoefficientLists.{copied-pushed}
use Rattle.math_decoding.proofs.coefficients.padded_copy.Goals as goal

pub loop-item-preserved : goal.loop-item-preserved
loop-item-preserved g c =
    let zero = g.F.Additive.zero in
    let E = g.met.F.Object.equality in
    record {
      count = omega (arith, c.in_ok-push.ensures.len, c.loop-item.invariant.count);
      same = rw c.in_ok-push.ensures.items
          (copied-pushed zero E c.loop-item.out.items c.args.p.now _ c.loop-item.item-index c.loop-item.invariant.count c.loop-item-test.true c.loop-item.invariant.same
          (rw (← get_or_default c.args.p.now c.loop-item.item-index c.item-item.result zero c.loop-item-test.true, ← c.item-item.is) c.in_ok-clone.ensures.ok));
    }
