use Rattle.std.proofs.Common.{◌≡◌, ◌+◌, ◌*◌, ◌≤◌, length, get_or, subst, arith}
use Rattle.math_restoring.specs.Restored.{AreTaken}
use Rattle.math_restoring.proofs.CombinedColumns.{nought}
use Rattle.math_restoring.proofs.RestoredColumns.{restored-more}
use Rattle.math_restoring.proofs.restoring.Restorer.restore_strips.Goals as goal

pub loop-from-preserved : goal.loop-from-preserved
loop-from-preserved c =
    let r = c.args.self.now in
    let from = c.loop-from.from in
    let cells = c.loop-from.cells in
    let within : from + c.min-cols.result ≤ c.args.width = omega (arith, c.loop-from.invariant.within, c.min-cols.ensures) in
    let rows : c.len.result ≡ length r.indices.items = omega (arith, c.len.ensures, r.indices.ok.0) in
    record {
      within = within;
      columns = restored-more r.division.lg r.division.part r.indices.items c.args.width from c.min-cols.result c.args.cells.now cells c.take_rows.new.cells c.restore.new.room
          (omega (arith, r.count, r.tables.few)) within (c.restore.ensures (λ t k. get_or cells (t * c.args.width + from + k) nought) c.place_rows.ensures)
          (subst (λ n. AreTaken c.args.width from c.min-cols.result n c.restore.new.room cells c.take_rows.new.cells) rows c.take_rows.ensures) c.loop-from.invariant.columns;
    }
