use Rattle.std.proofs.Common.{◌≡◌, ◌∙◌, ◌<◌, ◌^◌, refl, sym, arith}
use Rattle.math_theory.specs.BitReversal.{bit_reversed}
use Rattle.math_theory.proofs.transforms.BitOrder.{bit_reversed-below, bit_reversed-twice}
use Rattle.math_transforms.proofs.ReversedRows.{reversed-zero, reversed-stayed, reversed-exchanged}
use Rattle.math_transforms.proofs.transform.order.reverse_one_by_one.Goals.{then-i-j, else-i-j}
use Rattle.math_transforms.proofs.transform.order.reverse_one_by_one.Goals as goal

pub loop-i-init : goal.loop-i-init
loop-i-init g c = record {
  within = omega (arith, bit_reversed-below c.args.lg 0);
  reversed = λ l. sym (reversed-zero c.args.lg);
  rows = λ k l. record { moved = λ r a b. absurd (omega arith); moved_by = λ r a b. absurd (omega arith); kept = λ r a b d. refl };
}

pub loop-i-preserved : goal.loop-i-preserved
loop-i-preserved g c =
    let h = c.loop-i.invariant in
    let within : c.loop-i.i < 2 ^ c.args.lg = omega (arith, c.size_of-rows.ensures) in
    let other : c.loop-i.j ≡ bit_reversed c.args.lg c.loop-i.i = h.reversed within in
    let twice = bit_reversed-twice c.args.lg in
    record {
      within = c.next_reversed-j.ensures.below;
      reversed = λ l. c.next_reversed-j.ensures.next c.loop-i.i l other;
      rows = λ k l. elim c.if-i-j.branch [
        | then-i-j w ↦
            rw w.cells-is
            (reversed-exchanged _ _ twice _ _ c.loop-i.i within (h.rows k l) _
            (rw other at w.if-i-j.true) (bit_reversed-below c.args.lg c.loop-i.i)
            (rw other at (w.swap_rows.ensures.first k l)) (rw other at (w.swap_rows.ensures.second k l))
            (λ r m a b. w.swap_rows.ensures.others r k a (λ e. b (e ∙ other)) l))
        | else-i-j w ↦ rw w.cells-is (reversed-stayed _ _ twice _ _ c.loop-i.i within (h.rows k l) (rw other at w.if-i-j.false))
      ];
    }

pub returns : goal.returns
returns g c = λ i k l m. (c.loop-i.invariant.rows k m).moved i l (omega (arith, c.size_of-rows.ensures))
