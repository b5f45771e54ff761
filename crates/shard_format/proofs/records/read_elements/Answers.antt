use Rattle.std.proofs.Common.{length, drop, ◌∙◌, sym, ap, arith}
use Rattle.std.proofs.lemmas.Bool.{eqb-true}
use Rattle.std.proofs.lemmas.List.{take_at}
use Rattle.math_numbers.proofs.ByteLists.{some_of_test}
use Rattle.shard_format.specs.Records.{elements_spelling}
use Rattle.shard_format.proofs.SpelledElements.{chunks_are_spelled, length_spelled, spelled_of_all}
use Rattle.shard_format.proofs.records.read_elements.Goals as goal

pub returns-then-not-is_empty-clause-none : goal.returns-then-not-is_empty-clause-none
returns-then-not-is_empty-clause-none c = λ f others e.
    let some = some_of_test (length c.as_chunks.result.1.now) c.is_empty.result c.is_empty.ensures c.if-not-is_empty.true in
    omega (arith, some, c.as_chunks.ensures.back_len, length_spelled others, ap length e)

pub returns-clause-spelled : goal.returns-clause-spelled
returns-clause-spelled c = λ t.
    let words = c.as_chunks.result.0.now in
    let whole = sym c.as_chunks.ensures.back_len ∙ eqb-true (length c.as_chunks.result.1.now) 0 (sym c.is_empty.ensures ∙ c.if-not-is_empty.false) in
    let elements = c.write_elements.new.elements in
    let kept = ap elements_spelling (sym (take_at elements (drop (length elements) c.resize.new.self.items) c.resize.new.self.len (c.write_elements.auto.elements ∙ c.deref_mut.ensures.len))) in
    spelled_of_all elements c.args.bytes.now words whole c.as_chunks.ensures.front c.as_chunks.ensures.front_len (c.write_elements.ensures.spelled t) ∙ kept

pub returns-clause-none : goal.returns-clause-none
returns-clause-none c = λ f others e.
    c.write_elements.ensures.none f others (c.as_chunks.ensures.front ∙ chunks_are_spelled others c.args.bytes.now e)
