use Rattle.std.proofs.Common.{◌≡◌, ◌-◌, length, map, take, drop, codes, string_bytes, length-drop, arith, rules}
use Rattle.std.proofs.lemmas.List.{take_all}
use Rattle.goldmath_commands.proofs.RecoverWords.{recover_words, rows_below}
use Rattle.goldmath_commands.proofs.recovery.recovery_in.Goals as goal

pub are_distinct-requires-clause-below : goal.are_distinct-requires-clause-below
are_distinct-requires-clause-below c =
    let words = c.args.words.now in
    let all : take (length words - 2) (drop 2 words) ≡ drop 2 words = take_all _ _ (omega (arith, length-drop 2 words)) in
    let each = rw (c.in-Some-2.is, all) at c.in_ok-rows.ensures.written in
    rw c.deref.ensures.value (rows_below c.in-Some.lg (map string_bytes (drop 2 c.args.words.now)) c.in-Some-2.rows.items each)

pub returns-clause-written : goal.returns-clause-written
returns-clause-written c =
    let command : string_bytes c.command-item.result ≡ codes "recover" = search rules in
    let words = c.args.words.now in
    let all : take (length words - 2) (drop 2 words) ≡ drop 2 words = take_all _ _ (omega (arith, length-drop 2 words)) in
    let each = rw (c.in-Some-2.is, all) at c.in_ok-rows.ensures.written in
    let size = rw c.as_str-2.ensures.value at c.in-Some.ensures.written in
    let distinct = rw c.deref.ensures.value at (c.in_ok-are_distinct.ensures.0 c.if-not-branch.false) in
    recover_words string_bytes c.args.words.now c.command-item.result c.lg-item.result (omega arith) c.command-item.is c.lg-item.is
    command c.in-Some.lg c.in-Some-2.rows.items size.0 size.1 each distinct

pub invariant_of-result : goal.invariant_of-result
invariant_of-result c =
    let words = c.args.words.now in
    let all : take (length words - 2) (drop 2 words) ≡ drop 2 words = take_all _ _ (omega (arith, length-drop 2 words)) in
    record {
      small = c.in-Some.ensures.written.1;
      below = rows_below c.in-Some.lg (map string_bytes (drop 2 words)) c.in-Some-2.rows.items (rw (c.in-Some-2.is, all) at c.in_ok-rows.ensures.written);
      distinct = rw c.deref.ensures.value at (c.in_ok-are_distinct.ensures.0 c.if-not-branch.false);
    }
