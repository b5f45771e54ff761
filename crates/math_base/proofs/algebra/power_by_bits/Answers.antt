use Rattle.std.proofs.Common.{refl}
use Rattle.math_theory.specs.Powers.{power-zero}
use Rattle.math_base.proofs.SquareAndMultiply.{TakenTo-zero, TakenTo-one, TakenTo-limb, one-square}
use Rattle.math_base.proofs.algebra.power_by_bits.Goals as goal

pub loop-limb-init : goal.loop-limb-init
loop-limb-init g c one product M squared multiplied s = record { taken = rw (power-zero one product c.args.x.now) s; before = λ e. s }

pub loop-limb-preserved : goal.loop-limb-preserved
loop-limb-preserved g c one product M squared multiplied s =
    let inner = c.loop-i.invariant one product M squared multiplied s in
    record {
      taken = TakenTo-limb g.met.T.Object.equality M _ _ _ c.loop-i-test.false c.loop-limb.yielded c.in-Some.limb refl (c.loop-limb.invariant one product M squared multiplied s).taken inner.taken;
      before = inner.before;
    }

pub loop-i-preserved-in-Continue-branch-2 : goal.loop-i-preserved-in-Continue-branch-2
loop-i-preserved-in-Continue-branch-2 g c one product M squared multiplied s = record {
  taken = TakenTo-one g.met.T.Object.equality M _ _ _ c.loop-i-test.true c.loop-i.auto.i c.if-bit.true
      (c.loop-i.invariant one product M squared multiplied s).taken (squared _ _ _ c.in_ok-square.ensures)
      (multiplied _ _ _ _ c.in_ok-multiply.ensures);
  before = λ e. absurd (cc (e, c.if-begun.true));
}

pub loop-i-preserved-else-bit : goal.loop-i-preserved-else-bit
loop-i-preserved-else-bit g c one product M squared multiplied s = record {
  taken = TakenTo-zero g.met.T.Object.equality M _ _ _ c.loop-i-test.true c.loop-i.auto.i c.if-bit.false
      (c.loop-i.invariant one product M squared multiplied s).taken (squared _ _ _ c.in_ok-square.ensures);
  before = λ e. absurd (cc (e, c.if-begun.true));
}

pub loop-i-preserved-then-bit-2 : goal.loop-i-preserved-then-bit-2
loop-i-preserved-then-bit-2 g c one product M squared multiplied s =
    let inner = c.loop-i.invariant one product M squared multiplied s in
    record {
      taken = TakenTo-one g.met.T.Object.equality M _ _ _ c.loop-i-test.true c.loop-i.auto.i c.if-bit-2.true inner.taken (one-square g.met.T.Object.equality M _ (inner.before c.if-begun.false))
          (multiplied _ _ _ _ c.in_ok-multiply-2.ensures);
      before = λ e. absurd cc;
    }

pub loop-i-preserved : goal.loop-i-preserved
loop-i-preserved g c one product M squared multiplied s =
    let inner = c.loop-i.invariant one product M squared multiplied s in
    record {
      taken = TakenTo-zero g.met.T.Object.equality M _ _ _ c.loop-i-test.true c.loop-i.auto.i c.if-bit-2.false inner.taken (one-square g.met.T.Object.equality M _ (inner.before c.if-begun.false));
      before = inner.before;
    }
