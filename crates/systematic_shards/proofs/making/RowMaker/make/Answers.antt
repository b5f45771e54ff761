use Rattle.std.proofs.Common.{length, ap, arith}
use Rattle.std.proofs.lemmas.List.{length-map}
use Rattle.systematic_shards.proofs.Made.{made-cells}
use Rattle.systematic_shards.proofs.making.RowMaker.make.Goals as goal

pub make-requires-clause-rows : goal.make-requires-clause-rows
make-requires-clause-rows g c = let w = c.args.self.now in omega (arith, ap length w.of_rows, length-map w.rows.now (λ row. row.index))

pub returns : goal.returns
returns g c = λ a through.
    let w = c.args.self.now in
    let by = w.interpolation in
    made-cells g.M.WordMemory.word w.code.split w.code.mask w.rows.now by.total by.indices.items by.targets.items c.args.from c.args.cols c.make.new.room w.code.short w.of_total w.of_rows by.rising w.enough by.below
    c.requires.within c.make.ensures a through
