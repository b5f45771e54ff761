use Rattle.std.proofs.Common.{◌≡◌, ◌∙◌, ◌+◌, ◌*◌, ◌%◌, ◌<◌, ◌≤◌, length, set, get_or, sym, ap, ap₂, arith}
use Rattle.std.proofs.lemmas.List.{get_or_default, length-set}
use Rattle.math_numbers.specs.Goldilocks.{P}
use Rattle.math_fields.specs.declared.goldilocks.F.{F}
use Rattle.math_fields.specs.Elements.{number, residue, product}
use Rattle.math_fields.proofs.ElementNumbers.{same_number}
use Rattle.math_values.proofs.BlockValues.{power_of, power-block}
use Rattle.shard_fingerprints.proofs.WordBlocks.{below-two, power-none, power-one, power-set}
use Rattle.shard_fingerprints.proofs.blocks.powers_of.Goals as goal

pub loop-i-init : goal.loop-i-init
loop-i-init c = record {
  count = omega arith;
  powers = below-two _ (same_number c.from-powers.result (residue 1) c.from-powers.ensures ∙ power-none c.args.key) (power-one c.args.key);
}

pub loop-i-preserved : goal.loop-i-preserved
loop-i-preserved c =
    let key = c.args.key in
    let powers = c.loop-i.powers in
    let i = c.loop-i.i in
    let before = c.loop-i.invariant in
    let within : i < 16 = omega (arith, c.loop-i-test.true) in
    let some : 1 ≤ i = omega (arith, c.loop-i.auto.i) in
    let read : (p : F) → p ≡ get_or powers i p → p ≡ power_of key i = λ p e. e ∙ get_or_default powers i p (residue 0) (omega (arith, before.count, within)) ∙ before.powers i (omega (arith, some)) in
    let square = c.mul-square.result in
    let next = c.mul.result in
    let twice : i + i ≡ 2 * i = omega arith in
    let here : square ≡ power_of key (2 * i) =
    same_number square (product c.index-powers-i.result c.index-powers-i-in-loop-i.result)
    (c.mul-square.ensures ∙ ap₂ (λ a b. number a * number b % P) (sym c.index-powers-i.is) (sym c.index-powers-i-in-loop-i.is))
    ∙ power-block key c.index-powers-i.result c.index-powers-i-in-loop-i.result i i (read _ c.index-powers-i.is) (read _ c.index-powers-i-in-loop-i.is) ∙ ap (power_of key) twice in
    let after : next ≡ power_of key (2 * i + 1) = same_number _ _ c.mul.ensures ∙ power-block key square key (2 * i) 1 here (power-one key) in
    let one = power-set key powers (2 * i) square (omega (arith, before.count, within)) before.powers here in
    let long : length (set powers (2 * i) square) ≡ 32 = length-set powers (2 * i) square ∙ before.count in
    let two = power-set key (set powers (2 * i) square) (2 * i + 1) next (omega (arith, long, within)) one after in
    record {
      count = length-set (set powers (2 * i) square) (2 * i + 1) next ∙ long;
      powers = λ k l. two k (omega (arith, l));
    }
