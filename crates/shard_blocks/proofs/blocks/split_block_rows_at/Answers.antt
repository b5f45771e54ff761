use Rattle.std.proofs.Common.{◌∙◌, ◌*◌, ◌<◌, ◌^◌, List, ℕ, length, sym, ap, subst, arith}
use Rattle.math_splitting.specs.ShardRows.{AreRowsOfShardsAt}
use Rattle.math_splitting.specs.Shards.{width_for}
use Rattle.shard_blocks.proofs.CellCounts.{few_block_words}
use Rattle.shard_blocks.proofs.blocks.split_block_rows_at.Goals as goal

pub split_source_rows_at-requires-clause-few : goal.split_source_rows_at-requires-clause-few
split_source_rows_at-requires-clause-few g c = subst (λ (ws : List ℕ). length ws < 2 ^ 61) (sym c.block_source.ensures) (few_block_words c.args.bytes.now (omega arith))

pub split_source_rows_at-requires-clause-size : goal.split_source_rows_at-requires-clause-size
split_source_rows_at-requires-clause-size g c = c.requires.size ∙ ap (λ ws. length c.args.indices.now * width_for c.args.min ws) (sym c.block_source.ensures)

pub returns-clause-ok : goal.returns-clause-ok
returns-clause-ok g c =
    subst (λ (ws : List ℕ). AreRowsOfShardsAt ws c.args.min c.args.total c.args.indices.now (g.R.Room.words c.split_source_rows_at.new.cells)) c.block_source.ensures
    c.in_ok-split_source_rows_at.ensures.ok
