use Rattle.std.proofs.Common.{◌≡◌, ◌∙◌, ◌+◌, ◌-◌, ◌*◌, ◌≤◌, length, drop, take, subst, refl, arith}
use Rattle.std.proofs.lemmas.List.{length-drop, length-take-le}
use Rattle.math_transforms.proofs.WrittenCells.{row-within}
use Rattle.math_splitting.specs.DataWords.{words_in}
use Rattle.math_splitting.specs.Shards.{width_for}
use Rattle.math_splitting.proofs.StripColumns.{HoldRows, row-written, strip_written}
use Rattle.math_splitting.proofs.shards.strips.write_strip.Goals as goal

pub loop-row-preserved : goal.loop-row-preserved
loop-row-preserved g c =
    let words = words_in g.W.Word.word c.args.source.now in
    let strip = c.args.strip in
    let cols = strip.cols in
    let i = c.loop-row.row in
    let old = c.loop-row.cells in
    let n = i * cols + cols - i * cols in
    let within : i * cols + cols ≤ length old = omega (arith, row-within i c.args.rows cols (omega (arith, c.requires.tall)), c.requires.size, c.loop-row.auto.cells) in
    let e : n ≡ cols = omega arith in
    let long : length c.write_packed.new.cells ≡ n =
    c.write_packed.auto.cells ∙ length-take-le n (drop (i * cols) old) (omega (arith, within, e, length-drop (i * cols) old)) in
    row-written words strip.layout.width strip.from cols i n old c.write_packed.new.cells e within long c.loop-row.invariant c.write_packed.ensures

pub returns : goal.returns
returns g c =
    let words = words_in g.W.Word.word c.args.source.now in
    let strip = c.args.strip in
    let layout = strip.layout in
    let from = strip.from in
    let cols = strip.cols in
    let old = c.loop-row.cells in
    let m = length old - layout.min * cols in
    let all : c.loop-row.row ≡ layout.min = omega arith in
    let count : length old ≡ c.args.rows * cols = c.loop-row.auto.cells ∙ c.requires.size in
    let rows : HoldRows words (width_for layout.min words) from cols layout.min old =
    subst (λ w. HoldRows words w from cols layout.min old) c.requires.layout.width (subst (λ n. HoldRows words layout.width from cols n old) all c.loop-row.invariant) in
    strip_written words layout.min c.args.rows from cols m (length (take m (drop (layout.min * cols) old))) old c.fill.new.self c.from.result
    layout.some c.requires.tall (omega (arith, strip.inside, c.requires.layout.width)) count rows refl
    (length-take-le m (drop (layout.min * cols) old) (omega (arith, length-drop (layout.min * cols) old))) c.from.ensures (c.fill.ensures.after (λ y e. e))
