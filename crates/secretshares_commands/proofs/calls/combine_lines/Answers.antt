use Rattle.std.proofs.Common.{◌≡◌, ◌∙◌, length, map, ap, sym}
use Rattle.std.proofs.lemmas.List.{take_all}
use Rattle.secret_bytes.specs.declared.share.SecretShare.{SecretShare}
use Rattle.secretshares_commands.specs.Answers.{IsFirstTooGreat, IsNamed}
use Rattle.secretshares_commands.proofs.NamedFaults.{due-too_great, named-due, numbers-count}
use Rattle.secretshares_commands.proofs.calls.combine_lines.Goals as goal

pub returns-in-Err-combine-clause-due : goal.returns-in-Err-combine-clause-due
returns-in-Err-combine-clause-due c =
    let shares = c.in-Ok.lines.shares.items in
    let numbers = c.in-Ok.lines.numbers.items in
    let indices = c.loop-share.indices.items in
    let items = c.deref-share-items.result.now in
    let of_shares : indices ≡ map (λ (s : SecretShare). s.index) shares =
    c.loop-share.invariant ∙ ap (map (λ (s : SecretShare). s.index)) (take_all c.loop-share.share-index items c.loop-share-test.false ∙ c.deref-share-items.ensures.value) in
    let named : IsNamed numbers indices c.in-Err-combine.error c.fault_in_line.result = rw (c.deref-in-Err-combine.ensures.value, c.deref-in-Err-combine-2.ensures.value) at c.fault_in_line.ensures in
    named-due c.args.text.now shares numbers indices c.in-Err-combine.error c.fault_in_line.result c.in-Ok.ensures.lines c.in-Err-combine.ensures.due of_shares named

pub first_too_great-requires : goal.first_too_great-requires
first_too_great-requires c =
    ap length c.deref.ensures.value ∙ numbers-count c.args.text.now c.in-Ok.lines.shares.items c.in-Ok.lines.numbers.items c.in-Ok.ensures.lines ∙ ap length (sym c.deref-2.ensures.value)

pub returns-in-Some-clause-due : goal.returns-in-Some-clause-due
returns-in-Some-clause-due c =
    let numbers = c.in-Ok.lines.numbers.items in
    let shares = c.in-Ok.lines.shares.items in
    let found : IsFirstTooGreat numbers shares c.in-Some.fault = rw (c.deref.ensures.value, c.deref-2.ensures.value) at c.in-Some.ensures.some in
    due-too_great c.args.text.now shares numbers c.in-Some.fault c.in-Ok.ensures.lines found
