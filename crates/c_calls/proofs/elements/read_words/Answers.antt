use Rattle.std.proofs.Common.{◌≡◌, [], ℕ, ◌+◌, ◌-◌, ◌*◌, ◌<◌, ◌≤◌, length, map, take, subst, arith}
use Rattle.std.proofs.Math.ListN.{set}
use Rattle.std.proofs.lemmas.List.{length-set}
use Rattle.std.specs.Int.{from_be_bytes, w64}
use Rattle.c_calls.proofs.ReadWords.{all_read, one_read}
use Rattle.c_calls.proofs.elements.read_words.Goals as goal

pub loop-pair-preserved : goal.loop-pair-preserved
loop-pair-preserved c =
    let words = c.loop-pair.words in
    let eights = c.as_chunks.result.0.now in
    let i : ℕ = 2 * c.loop-pair.pair in
    let a = c.from_be_bytes.result in
    let b = c.from_be_bytes-in-loop-pair.result in
    let within : i + 1 < length words = omega (arith, c.loop-pair-test.true, c.loop-pair.auto.words) in
    let many : i + 1 < length eights = omega (arith, within, c.loop-pair.auto.words, c.requires, c.as_chunks.ensures.front_len) in
    let next : i + 1 + 1 ≡ 2 * (c.loop-pair.pair + 1) = omega arith in
    let one = one_read i a words eights [] (omega (arith, within)) (omega (arith, many)) c.from_be_bytes.ensures c.loop-pair.invariant in
    let two = one_read (i + 1) b (set words i a) eights [] (omega (arith, within, length-set words i a)) many c.from_be_bytes-in-loop-pair.ensures one in
    subst (λ n. take n (set (set words i a) (i + 1) b) ≡ map (from_be_bytes w64) (take n eights)) next two

pub returns-then-words-eq1 : goal.returns-then-words-eq1
returns-then-words-eq1 c = λ items below e.
    let words = c.loop-pair.words in
    let eights = c.as_chunks.result.0.now in
    let last = length words - 1 in
    let even : 2 * c.loop-pair.pair ≡ last = omega (arith, c.loop-pair-test.false, c.loop-pair.auto.pair-end, c.loop-pair.auto.words, c.if-words-eq1.true) in
    let some : last < length words = omega (arith, c.if-words-eq1.true) in
    let many : length eights ≡ length words = omega (arith, c.requires, c.as_chunks.ensures.front_len, c.loop-pair.auto.words) in
    let word = c.from_be_bytes-then-words-eq1.result in
    let before = subst (λ m. take m words ≡ map (from_be_bytes w64) (take m eights)) even c.loop-pair.invariant in
    all_read (last + 1) (set words last word) items c.args.bytes.now eights (omega (arith, some, length-set words last word)) (omega (arith, some, many))
    (one_read last word words eights [] some (omega (arith, some, many)) c.from_be_bytes-then-words-eq1.ensures before)
    c.as_chunks.ensures.front below e

pub returns-else-words-eq1 : goal.returns-else-words-eq1
returns-else-words-eq1 c = grind (arith, all_read)
