use Rattle.std.proofs.Common.{◌∙◌, ◌+◌, sym, ap}
use Rattle.shard_blocks.proofs.CellCounts.{count_block_words}
use Rattle.shard_blocks.specs.BlockWords.{words_of_bytes}
use Rattle.shard_blocks.proofs.blocks.cells_for.Goals as goal

pub returns : goal.returns
returns c = λ block e. c.shard_width.ensures (words_of_bytes block) (count_block_words block c.args.bytes e ∙ ap (λ n. n + 1) (sym c.div_ceil.ensures))
