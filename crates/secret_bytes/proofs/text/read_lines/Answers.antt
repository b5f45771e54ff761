use Rattle.std.proofs.Common.{◌≡◌, ◌+◌, ◌<◌, length, rules}
use Rattle.secret_bytes.specs.Texts.{IsDueReading}
use Rattle.secret_bytes.proofs.PassedErrors.{passed}
use Rattle.secret_bytes.proofs.GatheredLines.{due-share, read-first, read-next}
use Rattle.secret_bytes.proofs.text.read_lines.Goals as goal

pub loop-rest-init : goal.loop-rest-init
loop-rest-init c =
    read-first c.args.text.now c.in_ok-number.rest.now c.in_ok-number.number c.new.result.items c.new-2.result.items c.new.ensures.items c.new-2.ensures.items c.in_ok-number.ensures.passed
    c.in_ok-number.ensures.at_share

pub returns-in_err-share-clause-due : goal.returns-in_err-share-clause-due
returns-in_err-share-clause-due c =
    let e = c.in_err-share.field-0.0 in
    let some : 0 < length c.loop-rest.rest.now = search rules in
    passed c.from_residual-in_err-share.result e (IsDueReading c.args.text.now) c.from_residual-in_err-share.ensures.1
    (due-share c.args.text.now c.loop-rest.rest.now c.loop-rest.number c.loop-rest.lines.shares.items c.loop-rest.lines.numbers.items e c.loop-rest.invariant some c.in_err-share.ensures.due)

pub loop-rest-preserved : goal.loop-rest-preserved
loop-rest-preserved c =
    let next : c.saturating_add-number.result ≡ c.loop-rest.number + c.in_ok-share.count = search rules in
    read-next c.args.text.now c.loop-rest.rest.now c.in_ok-share.after.now c.loop-rest.number c.in_ok-share.count c.saturating_add-number.result c.loop-rest.lines.shares.items c.push.new.self.items
    c.loop-rest.lines.numbers.items c.push-in-loop-rest.new.self.items c.in_ok-share.share c.loop-rest.invariant c.in_ok-share.ensures.read c.in_ok-share.ensures.own next c.in_ok-push.ensures.items
    c.in_ok-push-2.ensures.items
