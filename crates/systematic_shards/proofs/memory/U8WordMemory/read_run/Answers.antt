use Rattle.std.proofs.Common.{◌∙◌, ◌+◌, ◌-◌, ◌/◌, ◌<◌, [], length, take, drop, get_or, ap, arith}
use Rattle.math_transforms.proofs.WrittenRows.{part-read}
use Rattle.systematic_shards.proofs.Bytes.{chunk-at, word-chunk}
use Rattle.systematic_shards.proofs.memory.U8WordMemory.read_run.Goals as goal

pub returns-then-end-words : goal.returns-then-end-words
returns-then-end-words c = λ k l.
    let cells = c.args.cells.now in
    let words = c.as_chunks.result.0.now in
    let from = c.args.from in
    let n = from + length c.args.out.now - from in
    let inside : from + k < length cells / 8 = omega (arith, l, c.if-end-words.true, c.as_chunks.ensures.front_len) in
    c.read_whole_words.ensures k l
    ∙ word-chunk cells (get_or (take n (drop from words)) k []) (from + k)
    (part-read [] words from n k (omega (arith, l)) ∙ ap (λ ws. get_or ws (from + k) []) c.as_chunks.ensures.front ∙ chunk-at 8 (length cells / 8) cells (from + k) [] inside)
