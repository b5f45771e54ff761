use Rattle.std.proofs.Common.{◌≡◌, get_or, length, ap, sym, ◌∙◌, arith}
use Rattle.std.proofs.lemmas.Grind.{get_or_default_zero}
use Rattle.goldmath_commands.proofs.PlacedRows.{placed_more}
use Rattle.goldmath_commands.proofs.recovery.place_rows.Goals as goal

pub loop-i-preserved : goal.loop-i-preserved
loop-i-preserved c =
    let row : get_or c.args.recovery.now.rows.items c.loop-i.i 0 ≡ c.index.result.now =
    sym (get_or_default_zero c.args.recovery.now.rows.items c.loop-i.i c.index.result.now (omega arith)) ∙ sym c.index.ensures in
    placed_more c.args.recovery.now.lg c.args.recovery.now.rows.items c.args.matrix.now c.loop-i.i c.loop-i.values c.fill_row.new.self
    c.loop-i.invariant (omega arith) (ap length (sym c.row.ensures.row) ∙ c.row.ensures.count) c.args.recovery.now.below c.args.recovery.now.distinct (rw (c.row.ensures.row, ← row) at c.in_ok-fill_row.ensures.ok)
