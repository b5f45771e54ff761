use Rattle.std.proofs.Common.{◌≡◌, ◌∙◌, ◌+◌, ◌-◌, ◌*◌, ◌≤◌, length, take, drop, get_or, refl, add-one, arith}
use Rattle.std.proofs.lemmas.List.{length-take-le, length-drop}
use Rattle.math_theory.specs.Powers.{power, power-zero, power-suc}
use Rattle.math_transforms.proofs.WrittenCells.{row-within}
use Rattle.math_transforms.proofs.WrittenRows.{row-read, row-done, row-rest}
use Rattle.math_transforms.proofs.row_products.dilate_rows.Goals as goal

pub loop-i-init : goal.loop-i-init
loop-i-init g c = record {
  factor = rw (power-zero g.F.Ring.one g.F.Multiplicative.product c.args.ratio.now) c.in_ok-factor.ensures.ok;
  done = λ i k l. absurd (omega arith);
  rest = λ j l. refl;
}

pub loop-i-preserved : goal.loop-i-preserved
loop-i-preserved g c =
    let E = g.met.F.Object.equality in
    let P = g.met.F.Multiplicative.commutes in
    let zero = g.F.Additive.zero in
    let one = g.F.Ring.one in
    let product = g.F.Multiplicative.product in
    let start = c.args.cells.now in
    let cells = c.loop-i.cells in
    let cols = c.args.cols in
    let ratio = c.args.ratio.now in
    let i = c.loop-i.i in
    let row = c.multiply_row.new.cells in
    let n = i * cols + cols - i * cols in
    let count : n ≡ cols = omega arith in
    let within : i * cols + cols ≤ length cells = omega (arith, row-within i c.args.rows cols c.loop-i-test.true) in
    let part : length (take n (drop (i * cols) cells)) ≡ n = length-take-le n (drop (i * cols) cells) (omega (arith, length-drop (i * cols) cells)) in
    let long : length row ≡ n = c.multiply_row.auto.cells ∙ part in
    let read = row-read zero (λ j k x. Unit {0}) start cells row i cols n count within long in
    record {
      factor = rw (add-one, power-suc one product ratio i) (E.transitive _ _ _ c.in_ok-mul_assign.ensures.ok (P.respects _ _ _ _ c.loop-i.invariant.factor (E.reflexive ratio)));
      done = row-done zero (λ j k x. g.F.Object.same x (product (get_or start (j * cols + k) zero) (power one product ratio j))) start cells row i cols n count within long c.loop-i.invariant.done
          (λ k l. rw (← c.loop-i.invariant.rest (i * cols + k) (omega arith), ← read k l)
          (E.transitive _ _ _ (c.in_ok-multiply_row.ensures.products k (omega (arith, part))) (P.respects _ _ _ _ (E.reflexive _) c.loop-i.invariant.factor)));
      rest = row-rest zero (λ j k x. Unit {0}) start cells row i cols n count within long c.loop-i.invariant.rest;
    }
