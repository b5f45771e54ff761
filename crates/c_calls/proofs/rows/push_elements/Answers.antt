use Rattle.std.proofs.Common.{◌∙◌, [], ◌∷◌, ◌++◌, append_assoc, take, refl, ap}
use Rattle.c_calls.specs.WordElements.{elements}
use Rattle.c_calls.proofs.WordElements.{elements_more}
use Rattle.c_calls.proofs.rows.push_elements.Goals as goal

pub loop-word-preserved : goal.loop-word-preserved
loop-word-preserved c =
    let words = c.args.words.now in
    let before = elements (take c.loop-word.word-index words) in
    let one = c.from.result in
    c.in_ok-push.ensures.items ∙ ap (λ xs. xs ++ one ∷ []) c.loop-word.invariant ∙ append_assoc c.args.out.now.items before (one ∷ [])
    ∙ ap (λ xs. c.args.out.now.items ++ xs) (elements_more words c.loop-word.word-index one before c.loop-word-test.true c.from.ensures refl)
