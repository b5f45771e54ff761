use Rattle.std.proofs.Common.{◌∙◌, map, ap, arith}
use Rattle.std.proofs.lemmas.List.{length-map}
use Rattle.std.proofs.lemmas.Simd.{map-map}
use Rattle.math_fields.specs.Elements.{residue, goldilocks}
use Rattle.math_base.specs.Polynomials.{value_in_ring}
use Rattle.math_values.proofs.BlockValues.{power_of}
use Rattle.math_values.proofs.SummedProducts.{value-from}
use Rattle.math_values.proofs.blocks.block_value.Goals as goal

pub returns-clause-value : goal.returns-clause-value
returns-clause-value g c =
    let word = g.W.Word.word in
    let items = c.args.words.now in
    let powers = c.args.powers.now in
    λ x h.
    c.remainder.ensures
    ∙ ap residue c.products-above.ensures.sum
    ∙ value-from x 0 (map word items) powers (omega (arith, length-map items word, c.requires)) (λ j m. h j m ∙ ap (power_of x) (omega arith))
    ∙ ap (λ xs. value_in_ring goldilocks xs x) (map-map residue word items)
