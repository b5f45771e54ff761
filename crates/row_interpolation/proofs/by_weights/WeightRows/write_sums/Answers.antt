use Rattle.std.proofs.Common.{◌≡◌, ◌∙◌, ℕ, ◌+◌, ◌-◌, ◌*◌, ◌≤◌, List, length, ap₂, arith}
use Rattle.std.proofs.lemmas.Nat.{row_fits}
use Rattle.math_theory.specs.Sums.{weighted_sum}
use Rattle.math_fields.specs.declared.goldilocks.F.{F}
use Rattle.math_fields.specs.Elements.{product, residue, sum}
use Rattle.math_transforms.proofs.WrittenRows.{row-done}
use Rattle.row_interpolation.specs.Weights.{part_of}
use Rattle.row_interpolation.proofs.WeightedSums.{part-long}
use Rattle.row_interpolation.proofs.by_weights.WeightRows.write_sums.Goals as goal

pub loop-j-preserved : goal.loop-j-preserved
loop-j-preserved c =
    let w = c.args.self.now in
    let cols : ℕ = c.args.cols in
    let columns : List F = c.args.columns.now in
    let j : ℕ = c.loop-j.j in
    let out : List F = c.loop-j.out in
    let q : ℕ = j * cols + cols - j * cols in
    let e : q ≡ cols = omega arith in
    let room : w.targets * cols ≤ length out = omega (arith, c.requires.room, c.loop-j.auto.out) in
    let within : j * cols + cols ≤ length out = omega (arith, row_fits j cols w.targets cols c.loop-j-test.true (omega arith), room) in
    let size = part-long cols j w.targets q out e c.loop-j-test.true room in
    row-done (residue 0) (λ i k x. x ≡ weighted_sum (residue 0) sum product (part_of w.count columns k) (part_of w.count w.weights.items i)) out out c.write_sums_of.new.out j cols q e within
    (c.write_sums_of.auto.out ∙ size) c.loop-j.invariant
    (λ k b. c.write_sums_of.ensures k (omega (arith, b, e, size)) ∙ ap₂ (λ i ys. weighted_sum (residue 0) sum product (part_of i columns k) ys) c.row.ensures.count c.row.ensures.row)

pub write_sums_of-requires : goal.write_sums_of-requires
write_sums_of-requires c =
    let w = c.args.self.now in
    let cols : ℕ = c.args.cols in
    let j : ℕ = c.loop-j.j in
    let e : j * cols + cols - j * cols ≡ cols = omega arith in
    let size = part-long cols j w.targets (j * cols + cols - j * cols) c.loop-j.out e c.loop-j-test.true (omega (arith, c.requires.room, c.loop-j.auto.out)) in
    omega (arith, ap₂ (λ x y. x * y) (size ∙ e) c.row.ensures.count, c.requires.columns)
