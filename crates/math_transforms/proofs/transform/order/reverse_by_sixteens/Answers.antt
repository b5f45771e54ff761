use Rattle.std.proofs.Common.{◌≡◌, ◌+◌, ◌-◌, ◌*◌, ◌<◌, ◌≤◌, ◌^◌, refl, sym, pow_mono, pow_pos, arith}
use Rattle.math_theory.specs.BitReversal.{bit_reversed}
use Rattle.math_theory.proofs.transforms.BitOrder.{bit_reversed-below}
use Rattle.math_transforms.specs.DomainValues.{matrix_of}
use Rattle.math_transforms.specs.Matrices.{cell_of}
use Rattle.math_transforms.proofs.ReversedRows.{reversed-zero}
use Rattle.math_transforms.proofs.SixteenRows.{sixteens, here-below, there-below, here-apart, turn-stayed, turn-exchanged, turns-stayed, turns-over}
use Rattle.math_transforms.proofs.transform.order.reverse_by_sixteens.Goals.{then-middle-t, else-middle-t, then-middle-other+else-loop-t-test, else-middle-other}
use Rattle.math_transforms.proofs.transform.order.reverse_by_sixteens.Goals as goal

pub loop-middle-init : goal.loop-middle-init
loop-middle-init g c = record {
  within = pow_pos (c.args.lg - 4);
  reversed = λ l. sym (reversed-zero (c.args.lg - 4));
  rows = λ k l. record { moved = λ r a b. absurd (omega arith); moved_by = λ r a b. absurd (omega arith); kept = λ r a b d. refl };
}

pub loop-t-init : goal.loop-t-init
loop-t-init g c = λ k l. let e : 16 * c.loop-middle.middle + 0 ≡ 16 * c.loop-middle.middle = omega arith in rw e (c.loop-middle.invariant.rows k l)

pub overflow_mul-middle : goal.overflow_mul-middle
overflow_mul-middle g c = omega (arith, c.loop-middle-test.true, c.size_of-middles.ensures, (sixteens c.args.lg c.requires.many).rows, pow_mono (let h : c.args.lg ≤ 63 = omega arith in h))

pub overflow_add-middle : goal.overflow_add-middle
overflow_add-middle g c =
    omega (arith, c.loop-middle-test.true, c.loop-t-test.true, c.size_of-middles.ensures, (sixteens c.args.lg c.requires.many).rows, pow_mono (let h : c.args.lg ≤ 63 = omega arith in h))

pub overflow_mul-other : goal.overflow_mul-other
overflow_mul-other g c = omega (arith, c.loop-middle.invariant.within, (sixteens c.args.lg c.requires.many).rows, pow_mono (let h : c.args.lg ≤ 63 = omega arith in h))

pub overflow_add-other : goal.overflow_add-other
overflow_add-other g c =
    let few : bit_reversed 4 c.loop-t.t < 16 = bit_reversed-below 4 c.loop-t.t in
    omega (arith, c.loop-middle.invariant.within, c.opposite_of_four-u.ensures, few, (sixteens c.args.lg c.requires.many).rows, pow_mono (let h : c.args.lg ≤ 63 = omega arith in h))

pub row_around-i-requires-clause-middle : goal.row_around-i-requires-clause-middle
row_around-i-requires-clause-middle g c =
    omega (arith, c.loop-middle-test.true, c.size_of-middles.ensures, c.size_of-quarter.ensures, (sixteens c.args.lg c.requires.many).quarter)

pub row_around-i-requires-clause-fits : goal.row_around-i-requires-clause-fits
row_around-i-requires-clause-fits g c =
    let s = sixteens c.args.lg c.requires.many in
    omega (arith, c.size_of-quarter.ensures, s.quarter, s.rows, pow_mono (let h : c.args.lg ≤ 63 = omega arith in h))

pub row_around-j-requires-clause-four : goal.row_around-j-requires-clause-four
row_around-j-requires-clause-four g c = let few : bit_reversed 4 c.loop-t.t < 16 = bit_reversed-below 4 c.loop-t.t in omega (arith, c.opposite_of_four-u.ensures, few)

pub row_around-j-requires-clause-middle : goal.row_around-j-requires-clause-middle
row_around-j-requires-clause-middle g c =
    omega (arith, c.loop-middle.invariant.within, c.size_of-quarter.ensures, (sixteens c.args.lg c.requires.many).quarter)

pub row_around-j-requires-clause-fits : goal.row_around-j-requires-clause-fits
row_around-j-requires-clause-fits g c =
    let s = sixteens c.args.lg c.requires.many in
    omega (arith, c.size_of-quarter.ensures, s.quarter, s.rows, pow_mono (let h : c.args.lg ≤ 63 = omega arith in h))

pub swap_rows-requires-clause-first : goal.swap_rows-requires-clause-first
swap_rows-requires-clause-first g c = grind (arith, here-below)

pub swap_rows-requires-clause-second : goal.swap_rows-requires-clause-second
swap_rows-requires-clause-second g c = grind (arith, there-below)

pub swap_rows-requires-clause-apart : goal.swap_rows-requires-clause-apart
swap_rows-requires-clause-apart g c = grind (arith, here-apart)

pub loop-t-preserved : goal.loop-t-preserved
loop-t-preserved g c = λ k l.
    let within : c.loop-middle.middle < 2 ^ (c.args.lg - 4) = omega (arith, c.size_of-middles.ensures) in
    let other = c.loop-middle.invariant.reversed within in
    let next : 16 * c.loop-middle.middle + (c.loop-t.t + 1) ≡ 16 * c.loop-middle.middle + c.loop-t.t + 1 = omega arith in
    let d = g.F.Additive.zero in
    rw next
    (elim c.if-middle-t.branch [
      | then-middle-t w ↦
          rw w.cells-is
          (turn-exchanged c.args.lg c.loop-middle.middle c.loop-middle.other c.loop-t.t c.opposite_of_four-u.result c.size_of-quarter.result c.requires.many c.size_of-quarter.ensures within
          c.loop-t-test.true other c.opposite_of_four-u.ensures
          (λ r. cell_of d (matrix_of (2 ^ c.args.lg) c.args.cols c.args.cells.now) r k) (λ r. cell_of d (matrix_of (2 ^ c.args.lg) c.args.cols c.loop-t.cells) r k)
          (c.loop-t.invariant k l) w.if-middle-t.true (λ r. cell_of d (matrix_of (2 ^ c.args.lg) c.args.cols w.swap_rows.new.cells) r k)
          (rw (← w.row_around-i.ensures, ← w.row_around-j.ensures) (w.swap_rows.ensures.first k l)) (rw (← w.row_around-i.ensures, ← w.row_around-j.ensures) (w.swap_rows.ensures.second k l))
          (rw (← w.row_around-i.ensures, ← w.row_around-j.ensures) (λ r a b. w.swap_rows.ensures.others r k a b l)))
      | else-middle-t w ↦
          rw w.cells-is
          (turn-stayed c.args.lg c.loop-middle.middle c.loop-middle.other c.loop-t.t c.opposite_of_four-u.result c.size_of-quarter.result c.requires.many c.size_of-quarter.ensures within
          c.loop-t-test.true other c.opposite_of_four-u.ensures
          (λ r. cell_of d (matrix_of (2 ^ c.args.lg) c.args.cols c.args.cells.now) r k) (λ r. cell_of d (matrix_of (2 ^ c.args.lg) c.args.cols c.loop-t.cells) r k)
          (c.loop-t.invariant k l) w.if-middle-t.false)
    ])

pub loop-middle-preserved : goal.loop-middle-preserved
loop-middle-preserved g c =
    let within : c.loop-middle.middle < 2 ^ (c.args.lg - 4) = omega (arith, c.size_of-middles.ensures) in
    let other = c.loop-middle.invariant.reversed within in
    let d = g.F.Additive.zero in
    let next : 16 * c.loop-middle.middle + 16 ≡ 16 * (c.loop-middle.middle + 1) = omega arith in
    record {
      within = c.next_reversed-other.ensures.below;
      reversed = λ l. c.next_reversed-other.ensures.next c.loop-middle.middle l other;
      rows = λ k l. elim c.if-middle-other.branch [
        | then-middle-other+else-loop-t-test w ↦
            let whole : 16 * c.loop-middle.middle + w.loop-t.t ≡ 16 * (c.loop-middle.middle + 1) = omega arith in
            rw w.cells-is (rw whole at (w.loop-t.invariant k l))
        | else-middle-other w ↦
            rw w.cells-is
            (rw next at
            (turns-stayed c.args.lg c.loop-middle.middle c.loop-middle.other c.requires.many within other (omega (arith, w.if-middle-other.false))
            (λ r. cell_of d (matrix_of (2 ^ c.args.lg) c.args.cols c.args.cells.now) r k) (λ r. cell_of d (matrix_of (2 ^ c.args.lg) c.args.cols c.loop-middle.cells) r k)
            (c.loop-middle.invariant.rows k l) 16 (omega arith)))
      ];
    }

pub returns : goal.returns
returns g c = λ i k l m.
    let d = g.F.Additive.zero in
    let over : 16 * c.loop-middle.middle ≡ 16 * 2 ^ (c.args.lg - 4) = omega (arith, c.size_of-middles.ensures) in
    turns-over c.args.lg c.requires.many
    (λ r. cell_of d (matrix_of (2 ^ c.args.lg) c.args.cols c.args.cells.now) r k) (λ r. cell_of d (matrix_of (2 ^ c.args.lg) c.args.cols c.loop-middle.cells) r k)
    (rw over at (c.loop-middle.invariant.rows k m)) i l
