use Rattle.std.proofs.Common.{◌∙◌, ◌%◌, ◌++◌, map, ap, arith}
use Rattle.std.proofs.lemmas.List.{length-map, take_all}
use Rattle.math_numbers.specs.Goldilocks.{P}
use Rattle.math_shards.proofs.RowWords.{number_at, words-more}
use Rattle.math_shards.proofs.shards.rows.CellRowRow.append_to.Goals as goal

pub loop-cell-preserved : goal.loop-cell-preserved
loop-cell-preserved g c =
    let number = g.C.Cell.number in
    let cells = c.args.self.now.cells.now in
    let i = c.loop-cell.cell-index in
    let at = c.number.ensures ∙ number_at number cells i c.cell-item.result c.loop-cell-test.true c.cell-item.is in
    words-more (map number cells) i c.args.out.now.items c.loop-cell.out.items c.push.new.self.items c.from.result (omega (arith, length-map cells number, c.loop-cell-test.true))
    (c.from.ensures ∙ ap (λ n. n % P) at) c.loop-cell.invariant c.in_ok-push.ensures.items

pub returns : goal.returns
returns g c = grind (arith, take_all, length-map)
