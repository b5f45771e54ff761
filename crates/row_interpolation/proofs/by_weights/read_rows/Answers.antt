use Rattle.std.proofs.Common.{◌≡◌, ◌∙◌, ◌+◌, ◌-◌, ◌*◌, ◌≤◌, ℕ, List, length, take, drop, arith}
use Rattle.std.proofs.lemmas.List.{length-drop, length-take-le}
use Rattle.std.proofs.lemmas.Nat.{row_fits}
use Rattle.math_fields.specs.declared.goldilocks.F.{F}
use Rattle.math_fields.specs.Elements.{residue}
use Rattle.math_transforms.proofs.WrittenRows.{row-done}
use Rattle.row_interpolation.proofs.WeightedSums.{turn}
use Rattle.row_interpolation.proofs.by_weights.read_rows.Goals as goal

pub loop-t-preserved : goal.loop-t-preserved
loop-t-preserved g c =
    let element = g.R.ElementRows.element c.args.rows.now in
    let cols : ℕ = c.args.cols in
    let t : ℕ = c.loop-t.t in
    let strip : List F = c.loop-t.strip in
    let q : ℕ = (t + 1) * cols - t * cols in
    let e : q ≡ cols = turn t cols in
    let within : t * cols + cols ≤ length strip = omega (arith, row_fits t cols c.args.count cols c.loop-t-test.true (omega arith), c.requires.room, c.loop-t.auto.strip) in
    let size : length (take q (drop (t * cols) strip)) ≡ q = length-take-le q (drop (t * cols) strip) (omega (arith, e, within, length-drop (t * cols) strip)) in
    row-done (residue 0) (λ i k x. x ≡ element i (c.args.from + k)) strip strip c.read_row.new.out t cols q e within (c.read_row.auto.out ∙ size) c.loop-t.invariant
    (λ k b. c.read_row.ensures k (omega (arith, b, e, size)))
