use Rattle.std.proofs.Common.{◌≡◌, ℕ, ◌+◌, ◌-◌, ◌*◌, ◌<◌, length, get_or, subst, refl, arith}
use Rattle.c_calls.proofs.WrittenWords.{AreWritten, all_written, one_written}
use Rattle.c_calls.proofs.elements.spell_words.Goals as goal

pub loop-pair-preserved : goal.loop-pair-preserved
loop-pair-preserved c =
    let words = c.args.words.now in
    let old = c.args.bytes.now in
    let from = c.args.from in
    let i : ℕ = 2 * c.loop-pair.pair in
    let place = from + 8 * i in
    let within : i + 1 < length words = omega (arith, c.loop-pair-test.true) in
    let next : i + 1 + 1 ≡ 2 * (c.loop-pair.pair + 1) = omega arith in
    let one = one_written from i place (get_or words i 0) old words c.loop-pair.bytes c.write_word.new.bytes (omega arith) (omega (arith, c.loop-pair.auto.bytes, c.requires, within)) (omega (arith, within))
    refl c.write_word.ensures c.loop-pair.invariant in
    let two = one_written from (i + 1) (place + 8) (get_or words (i + 1) 0) old words c.write_word.new.bytes c.write_word-in-loop-pair.new.bytes (omega arith)
    (omega (arith, c.write_word.auto.bytes, c.loop-pair.auto.bytes, c.requires, within)) within refl c.write_word-in-loop-pair.ensures one in
    subst (λ n. AreWritten from n old words c.write_word-in-loop-pair.new.bytes) next two

pub returns-then-words-eq1 : goal.returns-then-words-eq1
returns-then-words-eq1 c =
    let words = c.args.words.now in
    let old = c.args.bytes.now in
    let from = c.args.from in
    let last = length words - 1 in
    let even : 2 * c.loop-pair.pair ≡ last = omega (arith, c.loop-pair-test.false, c.loop-pair.auto.pair-end, c.if-words-eq1.true) in
    let some : last < length words = omega (arith, c.if-words-eq1.true) in
    let before = subst (λ n. AreWritten from n old words c.loop-pair.bytes) even c.loop-pair.invariant in
    all_written from (last + 1) old words c.write_word-then-words-eq1.new.bytes (omega (arith, some))
    (one_written from last (from + 8 * last) (get_or words last 0) old words c.loop-pair.bytes c.write_word-then-words-eq1.new.bytes (omega arith)
    (omega (arith, c.loop-pair.auto.bytes, c.requires, some)) some refl c.write_word-then-words-eq1.ensures before)
