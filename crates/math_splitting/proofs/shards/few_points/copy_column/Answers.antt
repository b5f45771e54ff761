use Rattle.std.proofs.Common.{◌≡◌, ◌∙◌, ◌+◌, ◌*◌, ◌<◌, get_or, length, sym, arith}
use Rattle.std.proofs.lemmas.List.{ext_get_or, get_or_default}
use Rattle.std.proofs.lemmas.Nat.{mul-add-lt}
use Rattle.math_transforms.specs.DomainValues.{matrix_of}
use Rattle.math_transforms.specs.Matrices.{column_of}
use Rattle.math_transforms.proofs.MatrixRows.{cell-of_column, length-column}
use Rattle.math_transforms.proofs.WrittenRows.{written-done}
use Rattle.math_splitting.proofs.SameCells.{nought}
use Rattle.math_splitting.proofs.shards.few_points.copy_column.Goals as goal

pub loop-r-preserved : goal.loop-r-preserved
loop-r-preserved c =
    let n = length c.args.column.now in
    let cols = c.args.cols in
    let rows = c.args.rows.now in
    let r = c.loop-r.r in
    let m = matrix_of n cols rows in
    let x = c.index-rows-r.result in
    let place : r * cols + c.args.k < length rows = omega (arith, c.requires.size, mul-add-lt r cols c.args.k n c.loop-r-test.true c.requires.within) in
    let here : x ≡ get_or (column_of nought m c.args.k) r nought =
    c.index-rows-r.is ∙ get_or_default rows (r * cols + c.args.k) x nought place ∙ sym (cell-of_column nought m c.args.k r c.requires.within c.requires.size) in
    written-done nought (λ j y. y ≡ get_or (column_of nought m c.args.k) j nought) c.loop-r.column c.loop-r.column r x (omega arith) c.loop-r.invariant here

pub returns : goal.returns
returns c =
    let n = length c.args.column.now in
    let m = matrix_of n c.args.cols c.args.rows.now in
    ext_get_or nought c.loop-r.column (column_of nought m c.args.k) (c.loop-r.auto.column ∙ sym (length-column nought m c.args.k)) (λ j l. c.loop-r.invariant j (omega arith))
