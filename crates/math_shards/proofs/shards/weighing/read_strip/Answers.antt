use Rattle.std.proofs.Common.{◌≡◌, ◌∙◌, ℕ, ◌+◌, ◌-◌, ◌*◌, ◌≤◌, List, length, take, drop, get_or, ap, arith}
use Rattle.std.proofs.lemmas.List.{length-drop, length-take-le}
use Rattle.std.proofs.lemmas.Nat.{row_fits}
use Rattle.math_fields.specs.declared.goldilocks.F.{F}
use Rattle.math_transforms.proofs.WrittenRows.{part-read, row-done}
use Rattle.math_splitting.proofs.SameCells.{nought}
use Rattle.math_shards.proofs.shards.weighing.read_strip.Goals as goal

pub loop-r-preserved : goal.loop-r-preserved
loop-r-preserved c =
    let shape = c.args.shape in
    let cells : List F = c.args.cells.now in
    let strip : List F = c.loop-r.strip in
    let r : ℕ = c.loop-r.r in
    let at : ℕ = r * shape.width + c.args.k in
    let q : ℕ = (r + 1) * 32 - r * 32 in
    let e : q ≡ 32 = omega arith in
    let wide : at + 32 ≤ length cells = omega (arith, row_fits r shape.width shape.count shape.width c.loop-r-test.true (omega arith), c.requires.within, c.requires.size) in
    let within : r * 32 + 32 ≤ length strip = omega (arith, c.loop-r-test.true, c.requires.room, c.loop-r.auto.strip) in
    let size : length (take q (drop (r * 32) strip)) ≡ q = length-take-le q (drop (r * 32) strip) (omega (arith, e, within, length-drop (r * 32) strip)) in
    let p : ℕ = at + 32 - at in
    let is : p ≡ 32 = omega arith in
    row-done nought (λ j i x. x ≡ get_or cells (j * shape.width + (c.args.k + i)) nought) strip strip c.copy_from_slice.new.self r 32 q e within
    (c.copy_from_slice.auto.self ∙ size) c.loop-r.invariant
    (λ i b. ap (λ xs. get_or xs i nought) c.copy_from_slice.ensures.after ∙ part-read nought cells at p i (omega (arith, b, is)) ∙ ap (λ j. get_or cells j nought) (omega arith))
