use Rattle.std.proofs.Common.{refl, arith}
use Rattle.math_theory.proofs.interpolation.SharedQuotients.{after-none, after-next, done-next, before-kept}
use Rattle.math_base.proofs.weights.times_after.Goals as goal

pub loop-i-init : goal.loop-i-init
loop-i-init g c =
    let R = g.met.R in
    record {
      after = after-none R.Object.equality R.Additive.group R.Multiplicative.commutes R.Ring.ring c.args.start c.args.factors.now _ (omega arith);
      before = λ k l. refl;
      done = λ k l m. absurd (omega arith);
    }

pub loop-i-preserved : goal.loop-i-preserved
loop-i-preserved g c =
    let R = g.met.R in
    let E = R.Object.equality in
    let G = R.Additive.group in
    let P = R.Multiplicative.commutes in
    let invariant = c.loop-i.invariant in
    record {
      after = after-next E G P R.Ring.ring c.args.start c.loop-i.after c.mul_assign-in-loop-i.new.self c.index-factors-i.result c.args.factors.now c.loop-i.i (omega arith) (omega arith)
          c.index-factors-i.is invariant.after c.in_ok-mul_assign-2.ensures.ok;
      before = before-kept E G P R.Ring.ring c.mul_assign.new.self c.args.items.now c.loop-i.items c.loop-i.i invariant.before;
      done = done-next E G P R.Ring.ring c.args.start c.loop-i.after c.index-items-i.result c.mul_assign.new.self c.args.items.now c.loop-i.items c.args.factors.now c.loop-i.i (omega arith)
          (omega arith)
          invariant.after c.in_ok-mul_assign.ensures.ok invariant.before invariant.done;
    }
