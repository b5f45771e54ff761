use Rattle.std.proofs.Common.{◌≡◌, ◌+◌, ◌-◌, arith, rules}
use Rattle.secret_bytes.specs.Gathered.{IsAtShare, IsNextGoingOn}
use Rattle.secret_bytes.proofs.GatheredLines.{walked-first, walked-next, walked-within}
use Rattle.secret_bytes.proofs.text.line_of_letter.Goals as goal

pub loop-left-init : goal.loop-left-init
loop-left-init c =
    walked-first c.args.text.now c.first_line.result.0.now c.in_ok-letters.letters.items c.first_line.result.1.now c.args.number c.args.place c.first_line.ensures.first c.first_line.ensures.shorter
    c.in_ok-letters.ensures

pub returns-in_default : goal.returns-in_default
returns-in_default c =
    let at_share : IsAtShare c.loop-left.rest.now = rw c.in_default.is at c.in_ok-more.ensures.none in
    absurd (walked-within c.args.text.now c.loop-left.letters.items c.loop-left.rest.now c.args.number c.args.place c.loop-left.left c.loop-left.at c.loop-left.invariant
    (omega (arith, c.loop-left-test.true, c.len.ensures, c.loop-left.letters.ok)) at_share c.requires.within)

pub loop-left-preserved : goal.loop-left-preserved
loop-left-preserved c =
    let next : IsNextGoingOn c.loop-left.rest.now c.in-Some.more.items c.in-Some.after.now = rw c.in-Some.is at c.in_ok-more.ensures.some in
    let at : c.saturating_add-at.result ≡ c.loop-left.at + 1 = search rules in
    walked-next c.args.text.now c.loop-left.letters.items c.in-Some.more.items c.loop-left.rest.now c.in-Some.after.now c.args.number c.args.place c.loop-left.left (c.loop-left.left - c.len-left.result)
    c.loop-left.at c.saturating_add-at.result c.loop-left.invariant next (omega (arith, c.loop-left-test.true, c.len.ensures, c.len-left.ensures, c.loop-left.letters.ok)) at
