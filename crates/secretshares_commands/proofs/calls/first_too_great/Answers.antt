use Rattle.std.proofs.Common.{◌≡◌, ◌∙◌, ◌+◌, ◌++◌, ◌∷◌, [], take, sym, ap, subst, refl}
use Rattle.std.specs.List.{All}
use Rattle.std.proofs.lemmas.List.{take_all, take_more}
use Rattle.std.proofs.lemmas.List.Elements.{All-push}
use Rattle.secretshares_commands.specs.Answers.{CanBeDealt}
use Rattle.secretshares_commands.proofs.calls.first_too_great.Goals as goal

pub returns-in-Some-clause-some : goal.returns-in-Some-clause-some
returns-in-Some-clause-some c =
    (c.loop-place.place, c.index-shares-place.result, c.loop-place-test.true, sym c.index-shares-place.is, refl, c.loop-place.invariant, c.in-Some.ensures.some)

pub loop-place-preserved : goal.loop-place-preserved
loop-place-preserved c =
    let i = c.loop-place.place in
    let all = c.args.shares.now in
    let s = c.index-shares-place.result in
    let more : take (i + 1) all ≡ take i all ++ (s ∷ []) = take_more all i s c.loop-place-test.true ∙ ap (λ x. take i all ++ (x ∷ [])) (sym c.index-shares-place.is) in
    let can : CanBeDealt s = c.in_default.ensures.none in
    subst (All CanBeDealt) (sym more) (All-push CanBeDealt (take i all) s c.loop-place.invariant can)

pub returns-clause-none : goal.returns-clause-none
returns-clause-none c = subst (All CanBeDealt) (take_all c.loop-place.place c.args.shares.now c.loop-place-test.false) c.loop-place.invariant
