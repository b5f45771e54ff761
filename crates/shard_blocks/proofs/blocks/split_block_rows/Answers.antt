use Rattle.std.proofs.Common.{◌≡◌, ◌∙◌, ◌*◌, ◌<◌, ◌^◌, List, ℕ, length, sym, ap, subst, arith}
use Rattle.math_splitting.specs.DataWords.{spelled_words}
use Rattle.math_splitting.specs.ShardRows.{AreRowsOfShards}
use Rattle.math_splitting.specs.Shards.{width_for}
use Rattle.math_splitting.proofs.SpelledWords.{bytes-spelled, length-spelled}
use Rattle.shard_blocks.specs.BlockWords.{words_of_bytes}
use Rattle.shard_blocks.proofs.CellCounts.{few_block_words}
use Rattle.shard_blocks.proofs.blocks.split_block_rows.Goals as goal

pub split_source_rows-requires-clause-few : goal.split_source_rows-requires-clause-few
split_source_rows-requires-clause-few c = subst (λ (ws : List ℕ). length ws < 2 ^ 61) (sym c.block_source.ensures) (few_block_words c.args.bytes.now (omega arith))

pub split_source_rows-requires-clause-size : goal.split_source_rows-requires-clause-size
split_source_rows-requires-clause-size c =
    let width = width_for c.args.min (words_of_bytes c.args.bytes.now) in
    let all : length (spelled_words c.args.out.now) ≡ c.args.total * width = omega (arith, length-spelled c.args.out.now, c.requires.size) in
    all ∙ ap (λ ws. c.args.total * width_for c.args.min ws) (sym c.block_source.ensures)

pub split_source_rows-requires-clause-fits : goal.split_source_rows-requires-clause-fits
split_source_rows-requires-clause-fits c = omega (arith, length-spelled c.args.out.now)

pub returns-clause-ok : goal.returns-clause-ok
returns-clause-ok c =
    let new = c.split_source_rows.new.cells in
    let long : length new ≡ 8 * (c.args.total * width_for c.args.min (words_of_bytes c.args.bytes.now)) = omega (arith, c.split_source_rows.auto.cells, c.requires.size) in (
      spelled_words new,
      subst (λ (ws : List ℕ). AreRowsOfShards ws c.args.min c.args.total (spelled_words new)) c.block_source.ensures c.in_ok-split_source_rows.ensures.ok,
      bytes-spelled (c.args.total * width_for c.args.min (words_of_bytes c.args.bytes.now)) new long (λ i. omega (arith, c.type_inv.out i)),
    )
