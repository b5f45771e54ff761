use Rattle.systematic_shards.specs.Correcting.{cells_at}
use Rattle.systematic_shards.proofs.Positions.{rows-more}
use Rattle.systematic_shards.proofs.correcting.write_rows.Goals as goal

pub loop-t-preserved : goal.loop-t-preserved
loop-t-preserved g c =
    let split = c.args.code.split in
    rows-more split c.args.code.mask (cells_at split.width c.args.cells.now) c.args.wanted.now c.loop-t.t (g.M.WordMemory.word c.loop-t.out) (g.M.WordMemory.word c.write_row.new.out) c.write_row.ensures c.loop-t.invariant
