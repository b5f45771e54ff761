use Rattle.std.proofs.Common.{◌≡◌, ◌∙◌, ◌+◌, ◌++◌, ◌∷◌, [], ap, sym, take, subst, arith}
use Rattle.std.specs.List.{All}
use Rattle.std.proofs.lemmas.List.{take_all, take_more}
use Rattle.std.proofs.lemmas.List.Elements.{All-push}
use Rattle.secret_bytes.specs.Lines.{line_spelling}
use Rattle.secret_bytes.specs.Refusals.{HasLine}
use Rattle.secret_bytes.proofs.SpelledLines.{lines-next}
use Rattle.secret_bytes.proofs.text.text_of.Goals as goal

pub loop-share-preserved : goal.loop-share-preserved
loop-share-preserved c =
    let i = c.loop-share.share-index in
    let all = c.args.shares.now in
    let s = c.share-item.result in
    let before = c.loop-share.text.items in
    let line : c.extend_from_slice.new.self.items ≡ before ++ c.deref.result.now = c.in_ok-extend_from_slice.ensures.items in
    let spelled : c.deref.result.now ≡ line_spelling s = c.deref.ensures.value ∙ c.in_ok-line.ensures in
    let pushed : c.push.new.self.items ≡ c.extend_from_slice.new.self.items ++ (10 ∷ []) = c.in_ok-push.ensures.items in
    let more : take (i + 1) all ≡ take i all ++ (s ∷ []) = take_more all i s c.loop-share-test.true ∙ ap (λ x. take i all ++ (x ∷ [])) (sym c.share-item.is) in
    record {
      lines = pushed ∙ ap (λ x. x ++ (10 ∷ [])) (line ∙ ap (λ x. before ++ x) spelled) ∙ lines-next all i s before c.loop-share-test.true c.share-item.is c.loop-share.invariant.lines;
      few = subst (All HasLine) (sym more) (All-push HasLine (take i all) s c.loop-share.invariant.few (omega (arith, c.if-len.false, c.len.ensures)));
    }

pub returns-then-len-clause-due : goal.returns-then-len-clause-due
returns-then-len-clause-due c =
    let s = c.share-item.result in
    (s, (c.loop-share.share-index, c.loop-share-test.true, sym c.share-item.is), λ h. omega (arith, h, c.if-len.true, c.len.ensures))

pub returns-clause-text : goal.returns-clause-text
returns-clause-text c = rw (take_all c.loop-share.share-index c.args.shares.now c.loop-share-test.false) at c.loop-share.invariant.lines

pub returns-clause-few : goal.returns-clause-few
returns-clause-few c = rw (take_all c.loop-share.share-index c.args.shares.now c.loop-share-test.false) at c.loop-share.invariant.few
