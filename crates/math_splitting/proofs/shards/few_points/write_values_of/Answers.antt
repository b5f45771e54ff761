use Rattle.std.proofs.Common.{◌≡◌, ◌∙◌, ℕ, ◌+◌, ◌*◌, ◌<◌, ◌≤◌, get_or, length, subst, arith}
use Rattle.math_theory.specs.Powers.{power}
use Rattle.math_fields.specs.declared.goldilocks.F.{F}
use Rattle.math_fields.specs.Elements.{residue, product, root_of}
use Rattle.math_transforms.specs.DomainValues.{matrix_of}
use Rattle.math_transforms.proofs.WrittenCells.{row-within}
use Rattle.math_values.specs.Values.{ArePowersOf}
use Rattle.math_splitting.specs.ShardRows.{indices_in, value_element}
use Rattle.math_splitting.specs.Strips.{HasValuesAt}
use Rattle.math_splitting.proofs.SameCells.{nought}
use Rattle.math_splitting.proofs.WrittenColumns.{columns-more, left-more, size-kept}
use Rattle.math_splitting.proofs.shards.few_points.write_values_of.Goals as goal

pub loop-t-preserved : goal.loop-t-preserved
loop-t-preserved g c =
    let strip = c.args.strip in
    let lg = strip.layout.lg in
    let width = strip.layout.width in
    let from = strip.from in
    let indices = indices_in c.args.wanted in
    let rows = c.args.rows.now in
    let t = c.loop-t.t in
    let out = c.write_values_at.new.out in
    let old = g.R.Room.words c.loop-t.cells in
    let first = g.R.Room.words c.args.cells.now in
    let m = matrix_of strip.layout.min strip.cols rows in
    let element : ℕ → ℕ → F = value_element indices lg m in
    let index = c.wanted_index-index.result in
    let tall : length c.loop-t.column ≡ strip.layout.min = c.loop-t.auto.column ∙ omega (arith, c.split_at_mut-column.ensures.front_len) in
    let wide : length c.loop-t.out ≡ strip.cols = c.loop-t.auto.out ∙ omega (arith, c.requires.room, c.split_at_mut-powers.ensures.back_len, c.split_at_mut-column.ensures.back_len) in
    let powers : ArePowersOf (power (residue 1) product (root_of lg) index) c.write_powers.new.cells = subst (λ x. ArePowersOf x c.write_powers.new.cells) c.point_of.ensures c.write_powers.ensures in
    let has : HasValuesAt lg (get_or indices t 0) m out =
    subst (λ i. HasValuesAt lg i m out) c.wanted_index-index.ensures
    (subst (λ w. HasValuesAt lg index (matrix_of strip.layout.min w rows) out) wide
    (subst (λ h. HasValuesAt lg index (matrix_of h (length c.loop-t.out) rows) out) tall (c.write_values_at.ensures lg index powers))) in
    let is : (k : ℕ) → k < strip.cols → get_or out k nought ≡ element t k = λ k l. has.values k l in
    let below : t < length indices = omega (arith, c.wanted_count-t-end.ensures) in
    let inside : t * width + width ≤ length old = omega (arith, row-within t (length indices) width below, c.requires.cells.size, c.loop-t.invariant.size) in
    rw c.write.ensures.written record {
      size = size-kept width from strip.cols t out element first old has.count strip.inside inside is ∙ c.loop-t.invariant.size;
      columns = columns-more width from strip.cols t out element first old has.count strip.inside inside is c.loop-t.invariant.columns c.loop-t.invariant.left;
      left = left-more width from strip.cols t out element first old has.count strip.inside inside is c.loop-t.invariant.left;
    }
