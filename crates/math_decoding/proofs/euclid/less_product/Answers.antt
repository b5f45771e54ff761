use Rattle.std.proofs.Common.{◌≡◌, ◌++◌, length, take, drop, ◌∙◌, ap, arith}
use Rattle.std.proofs.lemmas.List.{take_all}
use Rattle.math_theory.specs.Coefficients.{HaveSameCoefficients, polynomial_difference, polynomial_multiple}
use Rattle.math_theory.specs.Division.{moved_up}
use Rattle.math_decoding.proofs.CoefficientLists.{padded-pushed}
use Rattle.math_decoding.proofs.DivisionSteps.{written-back}
use Rattle.math_decoding.proofs.RemainderSteps.{less_product-begun, less_product-next}
use Rattle.math_decoding.proofs.SubtractedMultiples.{less-respects}
use Rattle.math_decoding.proofs.euclid.less_product.Goals as goal

pub loop-j-init : goal.loop-j-init
loop-j-init g c =
    let F = g.met.F in
    record {
      count = omega (arith, c.in_ok-out.ensures.length, c.requires.shorter);
      less = less_product-begun F.Object.equality F.Additive.group F.Multiplicative.commutes F.Ring.ring c.in_ok-out.out.items c.args.p.now c.args.d.now c.in_ok-out.ensures.same;
    }

pub loop-j-preserved : goal.loop-j-preserved
loop-j-preserved g c =
    let F = g.met.F in
    let zero = g.F.Additive.zero in
    let j = c.loop-j.j in
    let before = c.push.new.self.items in
    let new = c.subtract_multiple.new.p in
    let long : length new ≡ length before = c.in_ok-subtract_multiple.ensures.length ∙ ap length c.deref_mut.ensures.value in
    let back : take c.push.new.self.len (new ++ drop (length new) before) ≡ new = written-back c.push.new.self.len new before (omega (arith, long)) long in
    let taken : HaveSameCoefficients g.F.Object.same zero new (polynomial_difference g.F.Additive.sum g.F.Additive.negative c.loop-j.out.items
    (moved_up zero j (polynomial_multiple g.F.Multiplicative.product c.args.d.now c.index-q-j.result))) =
    less-respects F.Object.equality F.Additive.group F.Multiplicative.commutes F.Ring.ring j before c.loop-j.out.items new c.args.d.now c.index-q-j.result
    (rw c.in_ok-push.ensures.items
    (padded-pushed zero F.Object.equality c.loop-j.out.items c.loop-j.out.items c.in_ok-zero.field-0 (omega arith) (λ i. F.Object.equality.reflexive _) c.in_ok-zero.ensures.ok))
    (rw c.deref_mut.ensures.value at c.in_ok-subtract_multiple.ensures.ok) in
    record {
      count = rw back (omega (arith, long, c.in_ok-push.ensures.len, c.loop-j.invariant.count));
      less = rw back (less_product-next F.Object.equality F.Additive.group F.Multiplicative.commutes F.Ring.ring j c.args.p.now c.args.q.now c.args.d.now c.loop-j.out.items new c.index-q-j.result
          c.loop-j-test.true c.index-q-j.is c.loop-j.invariant.less taken);
    }

pub returns-clause-ok : goal.returns-clause-ok
returns-clause-ok g c = rw (take_all c.loop-j.j c.args.q.now c.loop-j-test.false) at c.loop-j.invariant.less

pub returns-clause-length : goal.returns-clause-length
returns-clause-length g c = omega (arith, c.loop-j.invariant.count, c.loop-j-test.false, c.loop-j.auto.j-end)
