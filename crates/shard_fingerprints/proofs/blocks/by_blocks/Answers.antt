use Rattle.std.proofs.Common.{◌≡◌, ◌∙◌, ℕ, ◌+◌, ◌-◌, ◌*◌, ◌/◌, ◌%◌, ◌≤◌, length, take, drop, get_or, sym, ap, ap₂, arith}
use Rattle.std.proofs.lemmas.List.{get_or_default, length-drop, length-take-le, take_all}
use Rattle.math_numbers.specs.Goldilocks.{P}
use Rattle.math_fields.specs.declared.goldilocks.F.{F}
use Rattle.math_fields.specs.Elements.{number, residue, sum, product}
use Rattle.math_fields.proofs.ElementNumbers.{same_number}
use Rattle.math_values.proofs.BlockValues.{power_of, power-block}
use Rattle.shard_fingerprints.specs.Fingerprints.{fingerprint}
use Rattle.shard_fingerprints.proofs.WordBlocks.{block-before, weighed-block}
use Rattle.shard_fingerprints.proofs.blocks.by_blocks.Goals as goal

pub loop-index-init : goal.loop-index-init
loop-index-init c =
    let words = c.args.words.now in
    let from = length words / 32 * 32 in
    let left = length words - from in
    let table = c.powers_of-powers in
    let short : length (take left (drop from words)) ≤ length table.result = omega (arith, length-drop from words, length-take-le left (drop from words), table.ensures.count) in
    record {
      within = omega arith;
      value =
          c.sum_of_products-value.ensures
          ∙ weighed-block c.args.key (take left (drop from words)) table.result short table.ensures.powers
          ∙ ap (λ ws. fingerprint ws c.args.key) (take_all left (drop from words) (omega (arith, length-drop from words)));
    }

pub loop-index-preserved : goal.loop-index-preserved
loop-index-preserved c =
    let key = c.args.key in
    let words = c.args.words.now in
    let before = c.loop-index.invariant in
    let from : ℕ = (c.loop-index.index - 1) * 32 in
    let after : c.loop-index.index * 32 ≡ from + 32 = omega (arith, c.loop-index-test.true) in
    let within : from + 32 ≤ length words = omega (arith, after, before.within) in
    let table = c.powers_of-powers in
    let read : (p : F) → p ≡ get_or table.result 16 p → p ≡ power_of key 16 =
    λ p e. e ∙ get_or_default table.result 16 p (residue 0) (omega (arith, table.ensures.count)) ∙ table.ensures.powers 16 (omega (arith, table.ensures.count)) in
    let next : c.mul-next.result ≡ power_of key 32 =
    same_number c.mul-next.result (product c.index-powers.result c.index-powers-2.result)
    (c.mul-next.ensures ∙ ap₂ (λ a b. number a * number b % P) (sym c.index-powers.is) (sym c.index-powers-2.is))
    ∙ power-block key c.index-powers.result c.index-powers-2.result 16 16 (read _ c.index-powers.is) (read _ c.index-powers-2.is) in
    let size : from + 32 - from ≡ 32 = omega arith in
    let short : length (take (from + 32 - from) (drop from words)) ≤ length table.result =
    rw size (omega (arith, within, length-drop from words, length-take-le 32 (drop from words), table.ensures.count)) in
    let block : c.sum_of_products-block.result ≡ fingerprint (take 32 (drop from words)) key =
    c.sum_of_products-block.ensures
    ∙ weighed-block key (take (from + 32 - from) (drop from words)) table.result short table.ensures.powers
    ∙ ap (λ n. fingerprint (take n (drop from words)) key) size in
    record {
      within = omega (arith, within);
      value =
          same_number _ _ c.add-value.ensures
          ∙ ap (λ a. sum c.sum_of_products-block.result a) (same_number c.mul.result (product c.mul-next.result c.loop-index.value) c.mul.ensures)
          ∙ block-before key words from 32 (c.loop-index.index * 32) c.mul-next.result c.loop-index.value c.sum_of_products-block.result within after next before.value block;
    }
