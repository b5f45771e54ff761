use Rattle.std.proofs.Common.{subst}
use Rattle.std.proofs.lemmas.Result.{err_from_is_err_and}
use Rattle.systematic_shards.specs.Correcting.{ArePositionsWithout, cells_at}
use Rattle.systematic_shards.specs.Shards.{AreRowsAt, IsRowOf}
use Rattle.systematic_shards.proofs.Corrected.{checked-due, settled-due}
use Rattle.systematic_shards.proofs.correcting.rebuild_corrected.Goals as goal

pub returns-in_err-check_rows-clause-due : goal.returns-in_err-check_rows-clause-due
returns-in_err-check_rows-clause-due g c =
    let code = c.args.code in
    let q = err_from_is_err_and c.from_residual.result c.from_residual.ensures.1 in
    rw (q.1, q.2) (checked-due g.M.WordMemory.BYTES g.M.WordMemory.word code.split code.mask c.args.rows.now c.args.wanted.now _ c.in_err-check_rows.ensures.err)

pub returns-in_err-cells-clause-due : goal.returns-in_err-cells-clause-due
returns-in_err-cells-clause-due g c =
    let code = c.args.code in
    let q = err_from_is_err_and c.from_residual-in_err-cells.result c.from_residual-in_err-cells.ensures.1 in
    rw (q.1, q.2) (settled-due g.M.WordMemory.BYTES g.M.WordMemory.word code.split code.mask c.args.rows.now c.args.wanted.now _
    (c.in_ok-check_rows.ensures.some, c.in_ok-check_rows.ensures.ok, c.are_below.ensures.0 c.if-not-are_below.false) c.in_err-cells.ensures.err)

pub returns-clause-some : goal.returns-clause-some
returns-clause-some g c =
    let word = g.M.WordMemory.word in
    let split = c.args.code.split in
    let mask = c.args.code.mask in
    let rows = c.args.rows.now in
    let near = rw c.in-Some.is at c.in_ok-cells.ensures.some in (
      cells_at split.width c.in-Some.cells.items,
      record {
        of_code = near.of_code;
        near = near.near;
        left_out =
            subst (λ cells. ArePositionsWithout (λ row. IsRowOf split mask (cells_at split.width cells) row.index (word row.cells.now)) rows c.in_ok-positions.positions.items) c.deref.ensures.value
            c.in_ok-positions.ensures.ok;
      },
      subst (λ cells. AreRowsAt split mask (cells_at split.width cells) c.args.wanted.now (word c.write_corrected.new.out)) c.deref.ensures.value c.in_ok-positions.ensures.rows,
    )
