use Rattle.std.proofs.Common.{◌≡◌, ◌++◌, ◌∙◌, ℕ, List, ap, ap₂, drop, sym}
use Rattle.std.proofs.lemmas.List.{take-append-drop}
use Rattle.shard_format.proofs.rows.are_words_of.Goals as goal

pub returns-then-are_word_of : goal.returns-then-are_word_of
returns-then-are_word_of c =
    let parts = c.in-Some.ensures.cases in
    let bytes = c.args.bytes.now in
    let whole : bytes ≡ c.in-Some.first.now ++ c.in-Some.second.now =
    sym (take-append-drop 8 bytes) ∙ ap₂ (λ (s t : List ℕ). s ++ t) (sym parts.1) (sym parts.2) in (
      λ r. whole ∙ ap₂ (λ (s t : List ℕ). s ++ t) (c.are_word_of.ensures.0 c.if-are_word_of.true) (c.are_word_of-then-are_word_of.ensures.0 r),
      λ e. c.are_word_of-then-are_word_of.ensures.1 (parts.2 ∙ ap (drop 8) e),
    )
