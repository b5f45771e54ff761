use Rattle.std.proofs.Common.{arith, ◌∙◌, ◌*◌, sym}
use Rattle.c_calls.proofs.WordShards.{words_of_split, numbers_of_all}
use Rattle.c_calls.proofs.shards.write_shards.Goals as goal

pub split_rows-requires-clause-size : goal.split_rows-requires-clause-size
split_rows-requires-clause-size c = grind arith

pub returns-clause-ok : goal.returns-clause-ok
returns-clause-ok c =
    let rows = c.in_ok-split_rows.ensures.ok in
    words_of_split c.args.words.now c.args.min c.args.total rows.0 c.split_rows.new.cells rows.1 (rows.2 ∙ sym (numbers_of_all rows.0))
