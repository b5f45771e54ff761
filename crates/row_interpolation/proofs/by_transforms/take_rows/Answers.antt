use Rattle.std.proofs.Common.{◌≡◌, ◌∙◌, ◌+◌, ◌-◌, ◌*◌, ◌<◌, ◌≤◌, length, get_or, ap, arith}
use Rattle.math_theory.specs.BitReversal.{bit_reversed}
use Rattle.math_fields.specs.Elements.{residue}
use Rattle.math_transforms.proofs.WrittenCells.{row-within}
use Rattle.math_transforms.proofs.WrittenRows.{part-read, row-done}
use Rattle.math_restoring.specs.Restored.{item}
use Rattle.row_interpolation.proofs.by_transforms.take_rows.Goals as goal

pub reversed_row-row-requires-clause-below : goal.reversed_row-row-requires-clause-below
reversed_row-row-requires-clause-below c = c.requires.below c.loop-j.j 0 c.loop-j-test.true

pub loop-j-preserved : goal.loop-j-preserved
loop-j-preserved c =
    let targets = c.args.targets.now in
    let lg = c.args.lg in
    let cols = c.args.cols in
    let strip = c.args.strip.now in
    let j = c.loop-j.j in
    let l : j < length targets = c.loop-j-test.true in
    let n = j * cols + cols - j * cols in
    let e : n ≡ cols = omega arith in
    let inside : j * cols + cols ≤ length c.loop-j.out = omega (arith, row-within j (length targets) cols l, c.requires.out, c.loop-j.auto.out) in
    let row = c.reversed_row-row in
    let place = bit_reversed lg (get_or targets j 0) in
    rw c.copy_from_slice.ensures.after
    (row-done (residue 0) (λ i k x. x ≡ item strip (bit_reversed lg (get_or targets i 0) * cols + k)) c.args.out.now c.loop-j.out row.result.now j cols n e inside (row.ensures.count ∙ omega (arith, e)) c.loop-j.invariant
    (λ k b. ap (λ xs. item xs k) row.ensures.row ∙ part-read (residue 0) strip (place * cols) cols k b))
