use Rattle.std.proofs.Common.{◌++◌, ◌∙◌, List, ℕ, ap₂, append_assoc}
use Rattle.math_fields.specs.declared.goldilocks.F.{F}
use Rattle.shard_format.specs.Headers.{fingerprints_spelling, header_words, words_spelling}
use Rattle.shard_format.proofs.header.write_header.Goals as goal

pub returns-clause-ok : goal.returns-clause-ok
returns-clause-ok c =
    let h = c.args.header.now in
    c.in_ok-write_fingerprints.ensures.ok
    ∙ ap₂ (λ (xs : List ℕ) (words : List F). xs ++ fingerprints_spelling h.keys words) c.in_ok-write_words.ensures.ok c.words_of-words.ensures
    ∙ append_assoc c.args.out.now.items (words_spelling h) (fingerprints_spelling h.keys (header_words h))
