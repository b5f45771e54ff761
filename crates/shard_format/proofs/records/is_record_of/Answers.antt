use Rattle.std.proofs.Common.{◌++◌, ◌∙◌, sym, ap, rules}
use Rattle.std.proofs.lemmas.Bool.Decides.{Decides-eqb}
use Rattle.std.proofs.lemmas.Slice.Eq.{strip_prefix_is}
use Rattle.shard_format.specs.Records.{elements_spelling}
use Rattle.shard_format.proofs.SpelledRecords.{elements_fit, record_made}
use Rattle.shard_format.proofs.records.is_record_of.Goals as goal

pub returns-in_default : goal.returns-in_default
returns-in_default c =
    let numbers = c.deref.ensures.value ∙ c.in_ok-numbers.ensures in
    let stripped = rw c.in_default.is at (strip_prefix_is Decides-eqb c.args.bytes.now c.deref.result.now c.strip_prefix.result c.strip_prefix.ensures.cases) in (
      λ t. search rules,
      λ r. absurd (stripped (elements_spelling r.elements) (r.spelled ∙ ap (λ s. s ++ elements_spelling r.elements) (sym numbers))),
    )

pub returns : goal.returns
returns c =
    let h = c.args.header.now in
    let bytes = c.args.bytes.now in
    let front = c.deref.result.now in
    let words = c.in-Some.words.now in
    let elements = c.deref-2.result.now in
    let numbers = c.deref.ensures.value ∙ c.in_ok-numbers.ensures in
    let stripped = rw c.in-Some.is at (strip_prefix_is Decides-eqb bytes front c.strip_prefix.result c.strip_prefix.ensures.cases) in
    let spelled = c.in_ok-read_elements.ensures.spelled c.if-not-branch.false ∙ ap elements_spelling (sym c.deref-2.ensures.value) in (
      λ fits. record_made h c.args.block c.args.count bytes front words elements numbers stripped spelled (c.are_cells_that_fit.ensures.0 fits),
      λ r. c.are_cells_that_fit.ensures.1 (elements_fit h c.args.block c.args.count bytes front words elements numbers stripped spelled r),
    )
