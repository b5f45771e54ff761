use Rattle.systematic_shards.specs.Shards.{AreBlockRows}
use Rattle.systematic_shards.proofs.encoding.block_rows.Given as goal

-- the rows so far
abbrev pub invariant-loop-index : goal.invariant-loop-index
invariant-loop-index g l = AreBlockRows g.M.WordMemory.word l.split.width l.block l.index l.rows.items
