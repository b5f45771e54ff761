use Rattle.std.proofs.Common.{◌≡◌, [], ◌∷◌, ◌++◌, arith}
use Rattle.secret_bytes.proofs.LettersRead.{empty, read-next, read-no_gap, read-no_byte, read-ended, read-only}
use Rattle.secret_bytes.proofs.letters.read_groups.Goals as goal

pub returns-in_default-clause-none : goal.returns-in_default-clause-none
returns-in_default-clause-none c =
    let none = c.in_default.ensures.none in
    read-no_gap c.args.text.now c.loop-rest.bytes.items c.loop-rest.rest.now c.loop-rest.first c.loop-rest.invariant (grind (arith, c.loop-rest-test.true)) none

pub returns-in_default-byte_in_front-clause-none : goal.returns-in_default-byte_in_front-clause-none
returns-in_default-byte_in_front-clause-none c =
    let none = c.in_default-byte_in_front.ensures.none in
    read-no_byte c.args.text.now c.loop-rest.bytes.items c.loop-rest.rest.now c.in-Some.letters.now c.loop-rest.first c.loop-rest.invariant (grind (arith, c.loop-rest-test.true)) c.in-Some.ensures.some none

pub loop-rest-preserved : goal.loop-rest-preserved
loop-rest-preserved c =
    let b = c.in-Some-byte_in_front.byte in
    let pushed : c.push.new.self.items ≡ c.loop-rest.bytes.items ++ (b ∷ []) = c.in_ok-push.ensures.items in
    rw pushed (read-next c.args.text.now c.loop-rest.bytes.items c.loop-rest.rest.now c.in-Some.letters.now c.in-Some-byte_in_front.after.now c.loop-rest.first b c.loop-rest.invariant
    c.in-Some.ensures.some c.in-Some-byte_in_front.ensures.some c.in-Some-byte_in_front.ensures.byte)

pub returns-clause-some : goal.returns-clause-some
returns-clause-some c = read-ended c.args.text.now c.loop-rest.bytes.items c.loop-rest.rest.now c.loop-rest.first c.loop-rest.invariant (empty c.loop-rest.rest.now (grind (arith, c.loop-rest-test.false, c.is_empty.ensures)))

pub returns-clause-again : goal.returns-clause-again
returns-clause-again c = λ all h e.
    read-only c.args.text.now c.loop-rest.bytes.items c.loop-rest.rest.now c.loop-rest.first c.loop-rest.invariant (empty c.loop-rest.rest.now (grind (arith, c.loop-rest-test.false, c.is_empty.ensures))) all h e
