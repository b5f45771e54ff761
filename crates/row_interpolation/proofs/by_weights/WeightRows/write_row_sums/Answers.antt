use Rattle.std.proofs.Common.{◌≡◌, ◌∙◌, ℕ, ◌+◌, ◌-◌, ◌*◌, ◌≤◌, List, length, get_or, sym, ap, arith}
use Rattle.std.proofs.lemmas.Nat.{row_fits}
use Rattle.math_theory.specs.Sums.{weighted_sum}
use Rattle.math_fields.specs.declared.goldilocks.F.{F}
use Rattle.math_values.specs.ColumnSums.{IsColumnAt}
use Rattle.math_fields.specs.Elements.{product, residue, sum}
use Rattle.math_transforms.proofs.WrittenRows.{row-done}
use Rattle.row_interpolation.specs.Weights.{part_of}
use Rattle.row_interpolation.proofs.WeightedSums.{part-long}
use Rattle.row_interpolation.proofs.by_weights.WeightRows.write_row_sums.Goals as goal

pub loop-j-preserved : goal.loop-j-preserved
loop-j-preserved c =
    let w = c.args.self.now in
    let n : ℕ = w.count in
    let cols : ℕ = c.args.cols in
    let rows : List F = c.args.rows.now in
    let j : ℕ = c.loop-j.j in
    let out : List F = c.loop-j.out in
    let q : ℕ = j * cols + cols - j * cols in
    let e : q ≡ cols = omega arith in
    let room : w.targets * cols ≤ length out = omega (arith, c.requires.room, c.loop-j.auto.out) in
    let within : j * cols + cols ≤ length out = omega (arith, row_fits j cols w.targets cols c.loop-j-test.true (omega arith), room) in
    let size = part-long cols j w.targets q out e c.loop-j-test.true room in
    row-done (residue 0)
    (λ i k x. (column : List F) → length column ≡ n → IsColumnAt rows cols k column → x ≡ weighted_sum (residue 0) sum product column (part_of n w.weights.items i))
    out out c.sum_columns.new.out j cols q e within (c.sum_columns.auto.out ∙ size) c.loop-j.invariant
    (λ k b column long is.
    c.sum_columns.ensures k column (omega (arith, b, e, size)) (long ∙ sym c.row.ensures.count) (λ i d. is i d ∙ ap (λ p. get_or rows (i * p + k) (residue 0)) (sym (size ∙ e)))
    ∙ ap (weighted_sum (residue 0) sum product column) c.row.ensures.row)
