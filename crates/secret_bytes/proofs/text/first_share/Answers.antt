use Rattle.std.proofs.Common.{◌≡◌, ◌+◌, ◌<◌, inl, inr, length, refl, rules}
use Rattle.secret_bytes.specs.Gathered.{IsNextGoingOn}
use Rattle.secret_bytes.proofs.GatheredLines.{passed-next, passed-stray}
use Rattle.secret_bytes.proofs.text.first_share.Goals as goal

pub returns-then-not-is_empty-clause-due : goal.returns-then-not-is_empty-clause-due
returns-then-not-is_empty-clause-due c =
    let next : IsNextGoingOn c.loop-letters.rest.now c.in-Some.letters.items c.in-Some.after.now = rw c.in-Some.is at c.in_ok-letters.ensures.some in
    let some : 0 < length c.in-Some.letters.items = search rules in
    inr (inl (passed-stray c.args.text.now c.loop-letters.rest.now c.in-Some.letters.items c.in-Some.after.now c.loop-letters.number c.loop-letters.invariant next some, refl))

pub loop-letters-preserved : goal.loop-letters-preserved
loop-letters-preserved c =
    let next : IsNextGoingOn c.loop-letters.rest.now c.in-Some.letters.items c.in-Some.after.now = rw c.in-Some.is at c.in_ok-letters.ensures.some in
    let none : length c.in-Some.letters.items ≡ 0 = search rules in
    let number : c.saturating_add-number.result ≡ c.loop-letters.number + 1 = search rules in
    passed-next c.args.text.now c.loop-letters.rest.now c.in-Some.letters.items c.in-Some.after.now c.loop-letters.number c.saturating_add-number.result c.loop-letters.invariant next none number
