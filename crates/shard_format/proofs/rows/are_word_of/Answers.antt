use Rattle.std.proofs.Common.{◌∙◌, ap, sym}
use Rattle.std.specs.Int.{to_be_bytes, w64}
use Rattle.std.proofs.lemmas.Bool.Decides.{Decides-eqb}
use Rattle.std.proofs.lemmas.Slice.Eq.{slice_eq-Decides}
use Rattle.shard_format.proofs.rows.are_word_of.Goals as goal

pub returns : goal.returns
returns c =
    let same = slice_eq-Decides Decides-eqb _ _ _ c.eq.ensures in
    let word = c.as_slice.ensures ∙ c.to_be_bytes.ensures ∙ ap (to_be_bytes w64) c.number.ensures in
    (λ r. same.0 r ∙ word, λ e. same.1 (e ∙ sym word))
