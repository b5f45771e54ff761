use Rattle.std.proofs.Common.{◌≡◌, ◌∙◌, ◌+◌, ◌-◌, ◌*◌, ◌≤◌, length, take, drop, get_or, refl, arith}
use Rattle.std.proofs.lemmas.List.{get_or_default, length-take-le, length-drop}
use Rattle.math_transforms.proofs.WrittenCells.{row-within}
use Rattle.math_transforms.proofs.WrittenRows.{row-read, row-done, row-rest}
use Rattle.math_transforms.proofs.row_products.multiply_rows.Goals as goal

pub loop-i-init : goal.loop-i-init
loop-i-init g c = record { done = λ i k l. absurd (omega arith); rest = λ j l. refl }

pub loop-i-preserved : goal.loop-i-preserved
loop-i-preserved g c =
    let zero = g.F.Additive.zero in
    let product = g.F.Multiplicative.product in
    let start = c.args.cells.now in
    let cells = c.loop-i.cells in
    let cols = c.args.cols in
    let i = c.loop-i.i in
    let row = c.multiply_row.new.cells in
    let n = i * cols + cols - i * cols in
    let count : n ≡ cols = omega arith in
    let within : i * cols + cols ≤ length cells = omega (arith, row-within i (length c.args.factors.now) cols c.loop-i-test.true) in
    let part : length (take n (drop (i * cols) cells)) ≡ n = length-take-le n (drop (i * cols) cells) (omega (arith, length-drop (i * cols) cells)) in
    let long : length row ≡ n = c.multiply_row.auto.cells ∙ part in
    let read = row-read zero (λ j k x. Unit {0}) start cells row i cols n count within long in
    let factor : c.index-factors-i.result ≡ get_or c.args.factors.now i zero = c.index-factors-i.is ∙ get_or_default c.args.factors.now i c.index-factors-i.result zero c.loop-i-test.true in
    record {
      done = row-done zero (λ j k x. g.F.Object.same x
          (product (get_or start (j * cols + k) zero) (get_or c.args.factors.now j zero))) start cells row i cols n count within long c.loop-i.invariant.done
          (λ k l. rw (← factor, ← c.loop-i.invariant.rest (i * cols + k) (omega arith), ← read k l) (c.in_ok-multiply_row.ensures.products k (omega (arith, part))));
      rest = row-rest zero (λ j k x. Unit {0}) start cells row i cols n count within long c.loop-i.invariant.rest;
    }
