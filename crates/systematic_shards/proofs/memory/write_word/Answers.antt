use Rattle.std.proofs.Common.{◌≡◌, ◌∙◌, inr, ◌-◌, ◌*◌, ◌<◌, ◌^◌, length, take, ap, arith}
use Rattle.std.proofs.lemmas.List.{length-take-le}
use Rattle.systematic_shards.specs.Words.{word_of_bytes}
use Rattle.systematic_shards.proofs.Bytes.{put_at, word-kept, word-written}
use Rattle.systematic_shards.proofs.memory.write_word.Goals as goal

pub returns-then-k-cells-clause-others : goal.returns-then-k-cells-clause-others
returns-then-k-cells-clause-others c = λ i other.
    let part = c.to_le_bytes-bytes.result in
    let old = c.args.cells.now in
    let long : length part ≡ 8 = ap length c.to_le_bytes-bytes.ensures in
    ap (λ xs. word_of_bytes xs i) c.write_bytes.ensures
    ∙ word-kept c.args.k i part old (omega (arith, long)) (omega (arith, long, c.if-k-cells.true)) other

pub returns-then-at-cells-clause-written : goal.returns-then-at-cells-clause-written
returns-then-at-cells-clause-written c =
    let k = c.args.k in
    let old = c.args.cells.now in
    let left = length old - 8 * k in
    let less : c.args.value < 2 ^ (8 * left) = c.requires.fits in
    ap (λ xs. word_of_bytes xs k) (c.write_bytes-then-at-cells.ensures ∙ ap (λ bs. put_at (8 * k) (take left bs) old) c.to_le_bytes-bytes.ensures)
    ∙ word-written k left c.args.value old (omega (arith, c.if-k-cells.false)) (omega (arith, c.if-at-cells.true)) (inr (omega (arith, c.if-at-cells.true))) c.ranges.value.fits less

pub returns-then-at-cells-clause-others : goal.returns-then-at-cells-clause-others
returns-then-at-cells-clause-others c = λ i other.
    let k = c.args.k in
    let old = c.args.cells.now in
    let left = length old - 8 * k in
    let bytes = c.to_le_bytes-bytes.result in
    let all : length bytes ≡ 8 = ap length c.to_le_bytes-bytes.ensures in
    let long : length (take left bytes) ≡ left = length-take-le left bytes (omega (arith, all, c.if-k-cells.false)) in
    ap (λ xs. word_of_bytes xs i) c.write_bytes-then-at-cells.ensures
    ∙ word-kept k i (take left bytes) old (omega (arith, long, c.if-k-cells.false)) (omega (arith, long, c.if-at-cells.true)) other
