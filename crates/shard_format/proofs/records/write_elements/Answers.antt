use Rattle.std.proofs.Common.{◌∙◌, ◌+◌, sym, ap, take, map, IsNone, arith, rules}
use Rattle.std.proofs.Math.ListN.{set}
use Rattle.std.proofs.lemmas.List.{take_all, take_more_set}
use Rattle.shard_format.specs.Records.{element_spelling}
use Rattle.shard_format.proofs.SpelledElements.{next_spelled, word_spelled}
use Rattle.shard_format.proofs.records.write_elements.Goals as goal

pub loop-k-preserved : goal.loop-k-preserved
loop-k-preserved c =
    let k = c.loop-k.k in
    let elements = c.loop-k.elements in
    let a = c.in-Some.element in
    next_spelled c.args.words.now (take k elements) (take (k + 1) (set elements k a)) k a _ c.loop-k-test.true c.in-Some.ensures.some c.loop-k.invariant
    (take_more_set elements k a (omega (arith, c.loop-k-test.true, c.loop-k.auto.elements, c.requires)))

pub returns-clause-spelled : goal.returns-clause-spelled
returns-clause-spelled c = λ t.
    let k = c.loop-k.k in
    ap (map element_spelling) (sym (take_all k c.loop-k.elements (omega (arith, c.loop-k-test.false, c.loop-k.auto.elements, c.requires)))) ∙ c.loop-k.invariant
    ∙ take_all k c.args.words.now c.loop-k-test.false

pub returns-in_default-clause-none : goal.returns-in_default-clause-none
returns-in_default-clause-none c = λ f others e.
    let none : IsNone c.element_of.result = search rules in
    let spelled = word_spelled others c.args.words.now c.loop-k.k _ c.loop-k-test.true e in
    c.element_of.ensures.none none spelled.0 spelled.1
