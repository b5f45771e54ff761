use Rattle.std.proofs.Common.{◌<◌, ◌^◌, ℕ, get_or, refl, arith}
use Rattle.std.proofs.lemmas.List.Elements.{All-from_get_or}
use Rattle.math_numbers.specs.Goldilocks.{P}
use Rattle.systematic_shards.specs.Masks.{IsFreeOf}
use Rattle.systematic_shards.proofs.Masks.{mask-nothing, masked-below}
use Rattle.systematic_shards.proofs.rows.are_words_in.Goals as goal

-- a word of which the high half is not all ones is below P
free-below : (word : ℕ) → word < 2 ^ 64 → IsFreeOf 0 word → word < P
free-below word fits free =
    let less = masked-below word 0 fits (omega arith) free in
    omega (arith, less, mask-nothing word)

pub returns-then-index-code : goal.returns-then-index-code
returns-then-index-code c =
    let words = c.args.words.now in (
      λ yes k l. (omega (arith, c.type_inv.words k), λ _. c.are_free_of.ensures.free.0 yes k 0 l, λ parity. absurd (omega (arith, parity, c.if-index-code.true))),
      λ elements. c.are_free_of.ensures.free.1 (All-from_get_or (IsFreeOf c.args.code.mask) words 0 (λ k l. (elements k l).1 c.if-index-code.true)),
    )

pub returns-then-are_free_of : goal.returns-then-are_free_of
returns-then-are_free_of c = (
  λ _ k l. let fits : get_or c.args.words.now k 0 < 2 ^ 64 = omega (arith, c.type_inv.words k) in
      (fits, λ of_data. absurd (omega (arith, of_data, c.if-index-code.false)), λ _. free-below (get_or c.args.words.now k 0) fits (c.are_free_of-2.ensures.free.0 c.if-are_free_of.true k 0 l)),
  λ _. refl,
)

pub returns : goal.returns
returns c = (
  λ yes k l. (omega (arith, c.type_inv.words k), λ of_data. absurd (omega (arith, of_data, c.if-index-code.false)), λ _. c.are_elements.ensures.0 yes k 0 l),
  λ elements. c.are_elements.ensures.1 (All-from_get_or (λ word. word < P) c.args.words.now 0 (λ k l. (elements k l).2 c.if-index-code.false)),
)
