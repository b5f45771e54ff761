use Rattle.std.proofs.Common.{◌≡◌, ◌∙◌, ℕ, ◌+◌, ◌*◌, ◌<◌, length, map, get_or, sym, ap, arith}
use Rattle.std.proofs.lemmas.List.{length-map, get_or-map}
use Rattle.math_fields.specs.Elements.{number}
use Rattle.math_values.proofs.SummedProducts.{products-more}
use Rattle.math_values.proofs.products.paired_products.Goals as goal

pub loop-pair-preserved : goal.loop-pair-preserved
loop-pair-preserved c =
    let items = c.args.elements.now in
    let weights = c.args.weights.now in
    let words = map number items in
    let long : length words ≡ length items = length-map items number in
    let i : ℕ = 2 * c.loop-pair.pair in
    let within : i + 1 < length items = omega (arith, c.loop-pair-test.true) in
    let a = c.word.result in
    let b = c.word-in-loop-pair-2.result in
    let here : get_or words i 0 ≡ a = get_or-map number items i c.index-elements-i.result 0 (omega (arith, within)) ∙ ap number (sym c.index-elements-i.is) ∙ sym c.word.ensures in
    let next : get_or words (i + 1) 0 ≡ b =
    get_or-map number items (i + 1) c.index-elements-i-in-loop-pair.result 0 within ∙ ap number (sym c.index-elements-i-in-loop-pair.is) ∙ sym c.word-in-loop-pair-2.ensures in
    let first = products-more words weights i a c.index-weights-i.result (omega (arith, long, within)) (omega (arith, within, c.requires)) here c.index-weights-i.is in
    let second = products-more words weights (i + 1) b c.index-weights-i-in-loop-pair.result (omega (arith, long, within)) (omega (arith, within, c.requires)) next c.index-weights-i-in-loop-pair.is in
    let e : i + 1 + 1 ≡ 2 * (c.loop-pair.pair + 1) = omega arith in
    let before = c.loop-pair.invariant in
    let one = ap (λ n. a * n) c.word-in-loop-pair.ensures in
    let two = ap (λ n. b * n) c.word-in-loop-pair-3.ensures in
    record {
      even = omega (arith, before.even, c.plus_product-even.ensures.carries);
      odd = omega (arith, before.odd, c.plus_product-odd.ensures.carries);
      sums = rw (← e) (omega (arith, before.sums, first, second, one, two, c.plus_product-even.ensures.total, c.plus_product-odd.ensures.total));
    }
