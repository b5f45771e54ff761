use Rattle.std.proofs.Common.{◌≡◌, ◌∙◌, ap, arith}
use Rattle.std.proofs.lemmas.List.{get_or_default, length-set}
use Rattle.math_fields.specs.Elements.{number, residue}
use Rattle.math_restoring.specs.Restored.{item}
use Rattle.math_transforms.proofs.WrittenRows.{written-done}
use Rattle.systematic_shards.specs.Masks.{masked_number}
use Rattle.systematic_shards.proofs.filling.words_of.Goals as goal

pub loop-c-preserved : goal.loop-c-preserved
loop-c-preserved c =
    let k = c.loop-c.c in
    let elements = c.args.elements.now in
    let x = c.index-elements-c.result in
    let here : x ≡ item elements k = c.index-elements-c.is ∙ get_or_default elements k x (residue 0) c.loop-c-test.true in
    record {
      size = length-set c.loop-c.words k c.word_of.result ∙ c.loop-c.invariant.size;
      words = written-done 0 (λ i w. w ≡ masked_number c.args.mask (number (item elements i))) c.loop-c.words c.loop-c.words k c.word_of.result (omega (arith, c.loop-c-test.true, c.loop-c.invariant.size)) c.loop-c.invariant.words
          (c.word_of.ensures ∙ ap (λ y. masked_number c.args.mask (number y)) here);
    }
