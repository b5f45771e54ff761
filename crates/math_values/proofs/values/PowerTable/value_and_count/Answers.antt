use Rattle.std.proofs.Common.{◌≡◌, ◌∙◌, ◌+◌, ◌-◌, length, map, drop, refl, ap, ap₂, arith}
use Rattle.std.proofs.lemmas.List.{length-map, length-drop, length-take-le, take_all}
use Rattle.math_theory.specs.Powers.{power-zero}
use Rattle.math_fields.specs.declared.goldilocks.F.{F}
use Rattle.math_fields.specs.Elements.{residue, sum, product, goldilocks}
use Rattle.math_base.specs.Polynomials.{value_in_ring}
use Rattle.math_fields.proofs.ElementNumbers.{same_number}
use Rattle.math_values.proofs.BlockValues.{none-counted, counted-block, whole-counted, map-block, value-block, power-block}
use Rattle.math_values.proofs.values.PowerTable.value_and_count.Goals as goal

pub loop-from-init : goal.loop-from-init
loop-from-init g c = record {
  within = omega arith;
  value = same_number _ _ c.from-sum.ensures;
  factor = rw power-zero (same_number _ _ c.from-factor.ensures);
  few = omega arith;
  counted = λ on. none-counted g.W.Word.word c.args.words.now;
}

pub loop-from-preserved : goal.loop-from-preserved
loop-from-preserved g c =
    let word = g.W.Word.word in
    let f : g.row.W.Denot → F = λ w. residue (word w) in
    let words = c.args.words.now in
    let table = c.args.self.now in
    let x = table.point in
    let coefficients = map f words in
    let long : length coefficients ≡ length words = length-map words f in
    let from = c.loop-from.from in
    let size = c.len-size.result in
    let whole : size ≡ length table.powers.items = omega (arith, c.len-size.ensures, table.powers.ok.0) in
    let before = c.loop-from.invariant in
    let n : from + size - from ≡ size = omega arith in
    let block = c.block_value-more.ensures.value x (rw c.deref.ensures.value table.are_powers) ∙ ap (λ xs. value_in_ring goldilocks xs x) (map-block f words from size _ n) in
    record {
      within = omega (arith, c.loop-from-test.true, before.within);
      value =
          same_number _ _ c.add-sum.ensures
          ∙ ap₂ sum before.value (same_number c.mul.result _ c.mul.ensures ∙ ap (product c.loop-from.factor) block)
          ∙ value-block x c.loop-from.factor coefficients from size (omega (arith, long, before.within)) before.factor;
      factor =
          same_number _ _ c.mul-factor.ensures
          ∙ power-block x c.loop-from.factor table.next from size before.factor (rw whole table.next_power);
      few = omega (arith, before.few, c.block_value-more.ensures.few, length-take-le size (drop from words), length-drop from words);
      counted = λ on. counted-block word words from size c.loop-from.above c.block_value-more.result.1 (rw (← n) (c.block_value-more.ensures.above on)) (before.counted on);
    }

pub returns-clause-value : goal.returns-clause-value
returns-clause-value g c =
    let f : g.row.W.Denot → F = λ w. residue (g.W.Word.word w) in
    let words = c.args.words.now in
    let table = c.args.self.now in
    let x = table.point in
    let coefficients = map f words in
    let long : length coefficients ≡ length words = length-map words f in
    let from = c.loop-from.from in
    let before = c.loop-from.invariant in
    let left = length words - from in
    let block = c.block_value-more-2.ensures.value x (rw c.deref-2.ensures.value table.are_powers) ∙ ap (λ xs. value_in_ring goldilocks xs x) (map-block f words from left left refl) in
    same_number _ _ c.add.ensures
    ∙ ap₂ sum before.value (same_number c.mul-2.result _ c.mul-2.ensures ∙ ap (product c.loop-from.factor) block)
    ∙ value-block x c.loop-from.factor coefficients from left (omega (arith, long, before.within)) before.factor
    ∙ ap (λ xs. value_in_ring goldilocks xs x) (take_all (from + left) coefficients (omega (arith, long, before.within)))

pub returns-clause-above : goal.returns-clause-above
returns-clause-above g c =
    let words = c.args.words.now in
    let from = c.loop-from.from in
    let left = length words - from in
    let more = c.block_value-more-2 in
    λ on.
    whole-counted g.W.Word.word words (from + left) (c.loop-from.above + more.result.1) (omega arith)
    (counted-block g.W.Word.word words from left c.loop-from.above more.result.1 (more.ensures.above on) (c.loop-from.invariant.counted on))
