use Rattle.std.proofs.Common.{arith, ◌∙◌, ◌*◌, sym}
use Rattle.shard_blocks.specs.BlockWords.{words_of_bytes}
use Rattle.c_calls.proofs.WordShards.{numbers_of_all, words_of_split}
use Rattle.c_calls.proofs.blocks.write_shards.Goals as goal

pub split_block_rows-requires-clause-size : goal.split_block_rows-requires-clause-size
split_block_rows-requires-clause-size c = grind arith

pub returns-clause-ok : goal.returns-clause-ok
returns-clause-ok c =
    let (cells, (shards, split, rows), bytes) = c.in_ok-split_block_rows.ensures.ok in
    (cells, words_of_split (words_of_bytes c.args.block.now) c.args.min c.args.total shards cells split (rows ∙ sym (numbers_of_all shards)), bytes)
