use Rattle.std.proofs.Common.{◌≡◌, ◌∙◌, ℕ, ◌+◌, ◌-◌, ◌*◌, ◌/◌, ◌<◌, length, map, drop, leb, eqb, not, ◌&&◌, get_or, sym, ap, arith}
use Rattle.std.proofs.lemmas.List.{length-map, length-drop, get_or-map, get_or-drop}
use Rattle.math_numbers.specs.Goldilocks.{P}
use Rattle.math_values.proofs.BlockValues.{from_bool-le, counted-more, counted-parts, whole-counted}
use Rattle.math_values.proofs.SummedProducts.{products-more}
use Rattle.math_values.proofs.products.products.Goals as goal

pub loop-i-preserved : goal.loop-i-preserved
loop-i-preserved g c =
    let word = g.W.Word.word in
    let items = c.args.words.now in
    let weights = c.args.weights.now in
    let words = map word items in
    let long : length words ≡ length items = length-map items word in
    let i : ℕ = c.loop-i.i in
    let half : ℕ = length items / 2 in
    let within : half + i < length items = omega (arith, c.loop-i-test.true) in
    let a = c.word-first.result in
    let b = c.word-second.result in
    let here : get_or words i 0 ≡ a = get_or-map word items i c.index-words-i.result 0 (omega (arith, within)) ∙ ap word (sym c.index-words-i.is) ∙ sym c.word-first.ensures in
    let there : get_or words (half + i) 0 ≡ b =
    get_or-map word items (half + i) c.index-words-half.result 0 within ∙ ap word (sym c.index-words-half.is) ∙ sym c.word-second.ensures in
    let first = products-more words weights i a c.index-weights-i.result (omega (arith, long, within)) (omega (arith, within, c.requires)) here c.index-weights-i.is in
    let second = products-more words weights (half + i) b c.index-weights-half.result (omega (arith, long, within)) (omega (arith, within, c.requires)) there c.index-weights-half.is in
    let e : half + i + 1 ≡ half + (i + 1) = omega arith in
    let before = c.loop-i.invariant in
    let one = ap (λ n. a * n) c.word.ensures in
    let two = ap (λ n. b * n) c.word-in-loop-i.ensures in
    record {
      lower = omega (arith, before.lower, c.plus_product-lower.ensures.carries);
      upper = omega (arith, before.upper, c.plus_product-upper.ensures.carries);
      lower_sum = omega (arith, before.lower_sum, first, one, c.plus_product-lower.ensures.total);
      upper_sum = rw (← e) (omega (arith, before.upper_sum, second, two, c.plus_product-upper.ensures.total));
      lower_few = omega (arith, before.lower_few, c.from-lower_above.ensures, from_bool-le (not (eqb g.row.COUNTED 0) && leb P a));
      upper_few = omega (arith, before.upper_few, c.from-upper_above.ensures, from_bool-le (not (eqb g.row.COUNTED 0) && leb P b));
      lower_counted = λ on.
          rw (c.from-lower_above.ensures, on, c.word-first.ensures)
          (counted-more word items i c.loop-i.lower_above c.index-words-i.result (omega (arith, within)) c.index-words-i.is (before.lower_counted on));
      upper_counted = λ on.
          rw (c.from-upper_above.ensures, on, c.word-second.ensures)
          (counted-more word (drop half items) i c.loop-i.upper_above c.index-words-half.result (omega (arith, within, length-drop half items))
          (c.index-words-half.is ∙ sym (get_or-drop half items i c.index-words-half.result)) (before.upper_counted on));
    }

pub returns-then-words-eq0-clause-above : goal.returns-then-words-eq0-clause-above
returns-then-words-eq0-clause-above g c =
    let word = g.W.Word.word in
    let items = c.args.words.now in
    let i : ℕ = c.loop-i.i in
    let half : ℕ = length items / 2 in
    let e : i ≡ half = omega (arith, c.loop-i-test.false, c.loop-i.auto.i-end) in
    let before = c.loop-i.invariant in
    λ on.
    whole-counted word items (half + i) (c.loop-i.lower_above + c.loop-i.upper_above) (omega (arith, e, c.if-words-eq0.true))
    (counted-parts word items half i c.loop-i.lower_above c.loop-i.upper_above (rw (← e) (before.lower_counted on)) (before.upper_counted on))

pub returns-else-words-eq0-clause-above : goal.returns-else-words-eq0-clause-above
returns-else-words-eq0-clause-above g c =
    let word = g.W.Word.word in
    let items = c.args.words.now in
    let i : ℕ = c.loop-i.i in
    let half : ℕ = length items / 2 in
    let last : ℕ = length items - 1 in
    let some : last < length items = omega (arith, c.if-words-eq0.false) in
    let e : i ≡ half = omega (arith, c.loop-i-test.false, c.loop-i.auto.i-end) in
    let l : half + i ≡ last = omega (arith, e, c.if-words-eq0.false) in
    let before = c.loop-i.invariant in
    λ on.
    let pairs = counted-parts word items half i c.loop-i.lower_above c.loop-i.upper_above (rw (← e) (before.lower_counted on)) (before.upper_counted on) in
    whole-counted word items (last + 1) (c.loop-i.lower_above + c.loop-i.upper_above + c.from-more.result) (omega arith)
    (rw (c.from-more.ensures, on, c.word-word.ensures)
    (counted-more word items last (c.loop-i.lower_above + c.loop-i.upper_above) c.index-words-last.result some c.index-words-last.is (rw (← l) pairs)))
