use Rattle.std.proofs.Common.{◌≡◌, ◌∙◌, arith, sym}
use Rattle.secret_bytes.proofs.LinesRead.{equal_texts}
use Rattle.secret_bytes.proofs.text.whole_share.Goals as goal

pub returns : goal.returns
returns c =
    let first = c.in_ok-first.first.items in
    let line = c.in_ok-line.line.items in
    let same : first ≡ line = sym c.as_slice.ensures.value ∙ equal_texts c.as_slice.result.now c.as_slice-2.result.now (sym c.ne.ensures ∙ c.if-ne.false) ∙ c.as_slice-2.ensures.value in
    (omega (arith, c.if-count-letters.false), (c.in-Some.share, sym c.in_ok-first.ensures ∙ same ∙ c.in_ok-line.ensures))
