use Rattle.std.proofs.Common.{◌≡◌, ◌∙◌, ℕ, ◌+◌, ◌-◌, ◌*◌, ◌<◌, length, map, sym, ap, subst, arith}
use Rattle.std.proofs.lemmas.List.{get_or-map, length-map}
use Rattle.math_fields.specs.Elements.{number}
use Rattle.math_splitting.proofs.SpelledWords.{AreWritten, all_written, one_written}
use Rattle.math_splitting.proofs.shards.destinations.write_bytes.Goals as goal

pub loop-pair-preserved : goal.loop-pair-preserved
loop-pair-preserved c =
    let items = c.args.items.now in
    let words = map number items in
    let old = c.args.bytes.now in
    let k : ℕ = 2 * c.loop-pair.pair in
    let place = 8 * (c.args.from + k) in
    let within : k + 1 < length items = omega (arith, c.loop-pair-test.true) in
    let many : length words ≡ length items = length-map items number in
    let next : k + 1 + 1 ≡ 2 * (c.loop-pair.pair + 1) = omega arith in
    let first = c.index-items-k.result in
    let second = c.index-items-k-in-loop-pair.result in
    let one = one_written (8 * c.args.from) k place (c.word.result) old words c.loop-pair.bytes c.write_word.new.bytes (omega arith) (omega (arith, c.loop-pair.auto.bytes, c.requires, within)) (omega (arith, many, within))
    (c.word.ensures ∙ ap number c.index-items-k.is ∙ sym (get_or-map number items k first 0 (omega (arith, within)))) c.write_word.ensures c.loop-pair.invariant in
    let two = one_written (8 * c.args.from) (k + 1) (place + 8) (c.word-in-loop-pair.result) old words c.write_word.new.bytes c.write_word-in-loop-pair.new.bytes (omega arith)
    (omega (arith, c.write_word.auto.bytes, c.loop-pair.auto.bytes, c.requires, within)) (omega (arith, many, within))
    (c.word-in-loop-pair.ensures ∙ ap number c.index-items-k-in-loop-pair.is ∙ sym (get_or-map number items (k + 1) second 0 within)) c.write_word-in-loop-pair.ensures one in
    subst (λ n. AreWritten (8 * c.args.from) n old words c.write_word-in-loop-pair.new.bytes) next two

pub returns-then-items-eq1 : goal.returns-then-items-eq1
returns-then-items-eq1 c =
    let items = c.args.items.now in
    let words = map number items in
    let old = c.args.bytes.now in
    let last = length items - 1 in
    let many : length words ≡ length items = length-map items number in
    let even : 2 * c.loop-pair.pair ≡ last = omega (arith, c.loop-pair-test.false, c.loop-pair.auto.pair-end, c.if-items-eq1.true) in
    let some : last < length items = omega (arith, c.if-items-eq1.true) in
    let before = subst (λ n. AreWritten (8 * c.args.from) n old words c.loop-pair.bytes) even c.loop-pair.invariant in
    all_written (8 * c.args.from) (last + 1) old words c.write_word-then-items-eq1.new.bytes (omega (arith, many, some))
    (one_written (8 * c.args.from) last (8 * (c.args.from + last)) c.word-then-items-eq1.result old words c.loop-pair.bytes c.write_word-then-items-eq1.new.bytes (omega arith)
    (omega (arith, c.loop-pair.auto.bytes, c.requires, some)) (omega (arith, many, some))
    (c.word-then-items-eq1.ensures ∙ ap number c.index-items-last.is ∙ sym (get_or-map number items last c.index-items-last.result 0 some)) c.write_word-then-items-eq1.ensures before)
