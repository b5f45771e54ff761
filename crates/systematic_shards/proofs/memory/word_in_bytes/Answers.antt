use Rattle.std.proofs.Common.{◌∙◌, ◌/◌, [], length, get_or, ap, arith}
use Rattle.systematic_shards.proofs.Bytes.{chunk-at, word-chunk}
use Rattle.systematic_shards.proofs.memory.word_in_bytes.Goals as goal

pub returns-then-k-words : goal.returns-then-k-words
returns-then-k-words c =
    let cells = c.args.cells.now in
    c.from_le_bytes.ensures
    ∙ word-chunk cells _ c.args.k
    (ap (λ words. get_or words c.args.k []) c.as_chunks.ensures.front ∙ chunk-at 8 (length cells / 8) cells c.args.k [] (omega (arith, c.if-k-words.true, c.as_chunks.ensures.front_len)))
