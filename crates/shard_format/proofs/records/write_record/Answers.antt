use Rattle.std.proofs.Common.{◌≡◌, ◌∙◌, ◌++◌, ℕ, List, ap, ap₂, refl}
use Rattle.shard_format.specs.Records.{HaveFingerprints, element_spelling, elements_spelling}
use Rattle.shard_format.proofs.SpelledRecords.{record_exact, record_written}
use Rattle.shard_format.proofs.records.write_record.Goals as goal

pub returns-clause-exact : goal.returns-clause-exact
returns-clause-exact c =
    let h = c.args.header.now in
    let cells = c.args.cells.now in
    let stored = c.cells_fingerprints-stored.result in
    let numbers = c.in_ok-numbers.numbers.items in
    let tail = element_spelling stored.first ++ element_spelling stored.second in
    let fits : HaveFingerprints h c.args.block cells stored = record { first = c.cells_fingerprints-stored.ensures.first; second = c.cells_fingerprints-stored.ensures.second } in
    let begun : c.extend_from_slice.new.self.items ≡ numbers =
    c.in_ok-extend_from_slice.ensures.items ∙ ap₂ (λ (xs ys : List ℕ). xs ++ ys) c.clear.ensures.items c.deref.ensures.value in
    let bytes : c.write_pair.new.out.items ≡ (numbers ++ elements_spelling cells) ++ tail =
    c.in_ok-write_pair.ensures.ok ∙ ap (λ (xs : List ℕ). xs ++ tail) (c.in_ok-append_cells.ensures ∙ ap (λ (xs : List ℕ). xs ++ elements_spelling cells) begun) in
    record_exact h c.args.block c.write_pair.new.out.items numbers (elements_spelling cells) cells stored c.in_ok-numbers.ensures refl bytes fits

pub returns-clause-read : goal.returns-clause-read
returns-clause-read c =
    let h = c.args.header.now in
    let cells = c.args.cells.now in
    let stored = c.cells_fingerprints-stored.result in
    let numbers = c.in_ok-numbers.numbers.items in
    let tail = element_spelling stored.first ++ element_spelling stored.second in
    let fits : HaveFingerprints h c.args.block cells stored = record { first = c.cells_fingerprints-stored.ensures.first; second = c.cells_fingerprints-stored.ensures.second } in
    let begun : c.extend_from_slice.new.self.items ≡ numbers =
    c.in_ok-extend_from_slice.ensures.items ∙ ap₂ (λ (xs ys : List ℕ). xs ++ ys) c.clear.ensures.items c.deref.ensures.value in
    let bytes : c.write_pair.new.out.items ≡ (numbers ++ elements_spelling cells) ++ tail =
    c.in_ok-write_pair.ensures.ok ∙ ap (λ (xs : List ℕ). xs ++ tail) (c.in_ok-append_cells.ensures ∙ ap (λ (xs : List ℕ). xs ++ elements_spelling cells) begun) in
    record_written h c.args.block c.write_pair.new.out.items numbers (elements_spelling cells) cells stored c.in_ok-numbers.ensures refl bytes fits
