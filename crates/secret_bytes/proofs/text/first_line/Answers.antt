use Rattle.std.proofs.Common.{◌≡◌, ◌≢◌, ◌∙◌, ◌+◌, ◌∷◌, ◌++◌, [], suc, drop, get_or, length, take, sym, ap, ap₂, rules, arith}
use Rattle.std.proofs.Math.Seq.{drop-cons}
use Rattle.std.proofs.lemmas.List.{nil_from_length, take-append-drop, take_all}
use Rattle.std.specs.List.{All}
use Rattle.secret_bytes.specs.Texts.{text_lines}
use Rattle.secret_bytes.proofs.TextLines.{line-ended, line-open}
use Rattle.secret_bytes.proofs.text.first_line.Goals as goal

pub returns-then-text-i-eq10-clause-first : goal.returns-then-text-i-eq10-clause-first
returns-then-text-i-eq10-clause-first c =
    let text = c.args.text.now in
    let i = c.loop-i.i in
    let line = c.split_at.result.0.now in
    let rest = c.split_at.result.1.now in
    let after = c.split_at-then-text-i-eq10.result.1.now in
    let front : line ≡ take i text = c.split_at.ensures.front in
    let back : rest ≡ drop i text = c.split_at.ensures.back in
    let tail : after ≡ drop 1 rest = c.split_at-then-text-i-eq10.ensures.back in
    let here : get_or text i 0 ≡ 10 = search rules in
    let cons : drop i text ≡ 10 ∷ drop (i + 1) text = drop-cons text i 0 c.loop-i-test.true ∙ ap₂ (λ b bs. b ∷ bs) here (let e : suc i ≡ i + 1 = omega arith in ap (λ n. drop n text) e) in
    let rest_is : rest ≡ 10 ∷ after = back ∙ cons ∙ ap (λ bs. 10 ∷ bs) (sym (tail ∙ ap (drop 1) (back ∙ cons))) in
    ap text_lines (sym (take-append-drop i text) ∙ ap₂ (λ a b. a ++ b) (sym front) (sym back ∙ rest_is))
    ∙ line-ended line after (rw front c.loop-i.invariant.none)

pub returns-clause-first : goal.returns-clause-first
returns-clause-first c =
    let text = c.args.text.now in
    let line = c.split_at-2.result.0.now in
    let rest = c.split_at-2.result.1.now in
    let whole : line ≡ text = c.split_at-2.ensures.front ∙ take_all (length text) text (omega arith) in
    let none : rest ≡ [] = nil_from_length rest (omega (arith, c.split_at-2.ensures.back_len)) in
    let all : All (λ b. b ≢ 10) text = rw (take_all c.loop-i.i text c.loop-i-test.false) at c.loop-i.invariant.none in
    rw (whole, none) (line-open text c.requires all)
