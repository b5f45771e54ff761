use Rattle.systematic_shards.proofs.Bytes.{word-part}
use Rattle.systematic_shards.proofs.memory.U8WordMemory.part.Goals as goal

pub returns : goal.returns
returns c = λ k l. word-part c.args.cells.now c.args.from c.args.count c.min.result c.min-2.result k c.min.ensures c.min-2.ensures l
