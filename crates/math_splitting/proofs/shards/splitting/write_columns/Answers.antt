use Rattle.std.proofs.Common.{◌≡◌, ◌∙◌, ℕ, ◌+◌, ◌*◌, ◌<◌, ◌≤◌, List, drop, get_or, length, take, refl, ap, arith}
use Rattle.math_fields.specs.declared.goldilocks.F.{F}
use Rattle.math_transforms.proofs.WrittenCells.{row-within}
use Rattle.math_splitting.specs.ShardRows.{indices_in, strip_element}
use Rattle.math_splitting.specs.Strips.{place_of}
use Rattle.math_splitting.proofs.SameCells.{nought}
use Rattle.math_splitting.proofs.WrittenColumns.{columns-more, left-more, size-kept, strip_row}
use Rattle.math_splitting.proofs.shards.splitting.write_columns.Goals as goal

pub loop-t-preserved : goal.loop-t-preserved
loop-t-preserved g c =
    let t = c.loop-t.t in
    let strip = c.args.strip in
    let cols = strip.cols in
    let width = strip.layout.width in
    let from = strip.from in
    let values = c.args.values.now in
    let indices = indices_in c.args.wanted in
    let old = g.R.Room.words c.loop-t.cells in
    let first = g.R.Room.words c.args.cells.now in
    let lg = strip.layout.lg in
    let items : List F = c.row_of_index-row.result.now in
    let element : ℕ → ℕ → F = strip_element lg indices cols values in
    let below : t < length indices = omega (arith, c.wanted_count-t-end.ensures) in
    let long : length items ≡ cols = c.row_of_index-row.ensures.count in
    let is : (k : ℕ) → k < cols → get_or items k nought ≡ element t k = λ k l.
    ap (λ xs. get_or xs k nought) c.row_of_index-row.ensures.row ∙ ap (λ j. get_or (take cols (drop (place_of lg j * cols) values)) k nought) c.wanted_index.ensures
    ∙ strip_row lg indices cols t cols values refl k l in
    let inside : t * width + width ≤ length old = omega (arith, row-within t (length indices) width below, c.requires.cells.size, c.loop-t.invariant.size) in
    rw c.write.ensures.written record {
      size = size-kept width from cols t items element first old long strip.inside inside is ∙ c.loop-t.invariant.size;
      columns = columns-more width from cols t items element first old long strip.inside inside is c.loop-t.invariant.columns c.loop-t.invariant.left;
      left = left-more width from cols t items element first old long strip.inside inside is c.loop-t.invariant.left;
    }
