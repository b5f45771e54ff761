use Rattle.std.proofs.Common.{◌≡◌, ◌*◌, ◌++◌, ◌∙◌, ℕ, List, Ok, ap, ap₂, refl, sym}
use Rattle.std.specs.Int.{to_be_bytes, w64}
use Rattle.std.proofs.lemmas.Bool.Decides.{Decides-eqb}
use Rattle.std.proofs.lemmas.List.{append_cancel_left, take-append-drop}
use Rattle.std.proofs.lemmas.Slice.Eq.{strip_prefix_is}
use Rattle.math_codec.specs.Faults.{fault_of}
use Rattle.shard_format.specs.Headers.{scan_number}
use Rattle.shard_format.specs.HeaderLaws.{number_again}
use Rattle.shard_format.proofs.RowRecords.{no_fault}
use Rattle.shard_format.proofs.rows.parts_of.Goals as goal

pub returns-in_default-clause-none : goal.returns-in_default-clause-none
returns-in_default-clause-none c = λ f mask row stored short size e.
    let stripped = rw c.in_default.is at (strip_prefix_is Decides-eqb c.args.bytes.now c.args.numbers.now c.strip_prefix.result c.strip_prefix.ensures.cases) in
    stripped (to_be_bytes w64 mask ++ (row ++ stored)) e

pub returns-in_default-read_number-clause-none : goal.returns-in_default-read_number-clause-none
returns-in_default-read_number-clause-none c = λ f mask row stored short size e.
    let words = c.in-Some.words.now in
    let after = row ++ stored in
    let stripped = rw c.in-Some.is at (strip_prefix_is Decides-eqb c.args.bytes.now c.args.numbers.now c.strip_prefix.result c.strip_prefix.ensures.cases) in
    let same : words ≡ to_be_bytes w64 mask ++ after = append_cancel_left c.args.numbers.now words (to_be_bytes w64 mask ++ after) (sym stripped ∙ e) in
    let scanned : scan_number words ≡ Ok after = ap scan_number same ∙ number_again mask after short in
    no_fault (fault_of c.in_default-read_number.field-0) (scan_number words) after scanned c.in_default-read_number.ensures.exact c.in_default-read_number.ensures.memory

pub returns-clause-some : goal.returns-clause-some
returns-clause-some c =
    let numbers = c.args.numbers.now in
    let mask = c.in-Ok.mask in
    let rest = c.read_number.new.input.now in
    let parts = c.in-Some-split_at_checked.ensures.cases in
    let stripped = rw c.in-Some.is at (strip_prefix_is Decides-eqb c.args.bytes.now numbers c.strip_prefix.result c.strip_prefix.ensures.cases) in
    let whole : rest ≡ c.in-Some-split_at_checked.bytes.now ++ c.in-Some-split_at_checked.stored.now =
    sym (take-append-drop (8 * c.args.width) rest) ∙ ap₂ (λ (s t : List ℕ). s ++ t) (sym parts.1) (sym parts.2) in
    (refl, stripped ∙ ap (λ (s : List ℕ). numbers ++ s) (c.in-Ok.ensures.taken ∙ ap (λ (s : List ℕ). to_be_bytes w64 mask ++ s) whole))
