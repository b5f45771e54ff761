use Rattle.std.proofs.Common.{◌≤◌, length, map, string_bytes, refl, arith}
use Rattle.std.proofs.lemmas.List.{take_all}
use Rattle.goldmath_commands.specs.Numerals.{WritesRow}
use Rattle.goldmath_commands.proofs.RecoverWords.{written_more, written_at, rows_once}
use Rattle.goldmath_commands.proofs.recovery.rows_in.Goals as goal

pub returns-in_default-clause-found : goal.returns-in_default-clause-found
returns-in_default-clause-found c = λ rows h.
    let row = written_at (WritesRow c.args.lg) string_bytes c.args.words.now rows c.loop-word.word-index c.word-item.result (omega arith) c.word-item.is h in
    let found = c.in_default.ensures.found row.0 (rw c.as_str.ensures.value row.1) in
    absurd (cc found)

pub loop-word-preserved : goal.loop-word-preserved
loop-word-preserved c =
    let written = rw c.as_str.ensures.value at c.in-Some.ensures.written in
    rw c.in_ok-push.ensures.items
    (written_more (WritesRow c.args.lg) string_bytes c.args.words.now c.loop-word.rows.items c.loop-word.word-index
    c.word-item.result c.in-Some.row (omega arith) c.word-item.is c.loop-word.invariant written)

pub returns-clause-found : goal.returns-clause-found
returns-clause-found c = λ rows h.
    let all : length c.args.words.now ≤ c.loop-word.word-index = omega arith in
    let whole = rw (take_all c.loop-word.word-index c.args.words.now all) at c.loop-word.invariant in
    (refl, rows_once c.args.lg (map string_bytes c.args.words.now) c.loop-word.rows.items rows whole h)
