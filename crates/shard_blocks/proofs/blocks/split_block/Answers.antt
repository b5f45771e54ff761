use Rattle.std.proofs.Common.{◌<◌, ◌^◌, List, ℕ, length, sym, subst, arith}
use Rattle.math_splitting.specs.Shards.{AreShardsOf}
use Rattle.shard_blocks.proofs.CellCounts.{few_block_words}
use Rattle.shard_blocks.proofs.blocks.split_block.Goals as goal

pub split_source-requires-clause-few : goal.split_source-requires-clause-few
split_source-requires-clause-few c = subst (λ (ws : List ℕ). length ws < 2 ^ 61) (sym c.block_source.ensures) (few_block_words c.args.bytes.now (omega arith))

pub returns : goal.returns
returns c = subst (λ (ws : List ℕ). AreShardsOf ws c.args.min c.args.total c.in_ok-shards.shards.items) c.block_source.ensures c.in_ok-shards.ensures
