use Rattle.std.proofs.Common.{◌≡◌, ◌∙◌, ◌*◌, ap}
use Rattle.math_ntt.proofs.TakenItems.{taken-all}
use Rattle.math_ntt.proofs.ntt.matrix.Matrix.init.Goals as goal

pub returns-clause-cells : goal.returns-clause-cells
returns-clause-cells g c =
    let source : c.into_iter-cell-iterator.result.iter ≡ c.into_iter.result = ap (λ t. t.iter) c.into_iter-cell-iterator.ensures.into_iter_gives ∙ c.take-cell-items.ensures.source in
    let count : c.into_iter-cell-iterator.result.n ≡ c.args.rows * c.args.cols = ap (λ t. t.n) c.into_iter-cell-iterator.ensures.into_iter_gives ∙ c.take-cell-items.ensures.count in
    let given = taken-all g.P.IntoIter.Iterator.next_gives c.into_iter.result (c.args.rows * c.args.cols) c.into_iter-cell-iterator.result c.loop-cell.cell-iterator c.next.new.self c.loop-cell.yielded
    source count c.loop-cell.yielded_by c.in-None.ensures.steps in
    (c.into_iter.result, c.loop-cell.yielded, c.into_iter.ensures.into_iter_gives, given, rw c.loop-cell.invariant at c.in_ok-cells.ensures.cells)
