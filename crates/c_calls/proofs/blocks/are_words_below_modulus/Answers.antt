use Rattle.std.proofs.Common.{◌<◌, [], List, ℕ, true≢false, sym, arith}
use Rattle.std.proofs.lemmas.List.Elements.{All-more}
use Rattle.std.specs.Int.{from_be_bytes, w64}
use Rattle.math_numbers.specs.Goldilocks.{P}
use Rattle.c_calls.proofs.blocks.are_words_below_modulus.Goals.{then-number-ge-MODULUS, else-number-ge-MODULUS}
use Rattle.c_calls.proofs.blocks.are_words_below_modulus.Goals as goal

abbrev IsBelow : List ℕ → Type 0
IsBelow word = from_be_bytes w64 word < P

pub loop-word-preserved : goal.loop-word-preserved
loop-word-preserved c =
    let words = c.args.words.now in
    let i = c.loop-word.word-index in
    record {
      below = elim c.if-number-ge-MODULUS.branch [
        | then-number-ge-MODULUS w ↦ rw w.below-is (λ e. absurd (true≢false (sym e)))
        | else-number-ge-MODULUS w ↦ rw w.below-is
            (λ e. All-more IsBelow words i [] c.loop-word-test.true (c.loop-word.invariant.below e) (omega (arith, c.from_be_bytes-number.ensures, w.if-number-ge-MODULUS.false)))
      ];
      not_below = elim c.if-number-ge-MODULUS.branch [
        | then-number-ge-MODULUS w ↦ rw w.below-is (λ e all. let small = all i [] c.loop-word-test.true in absurd (omega (arith, small, c.from_be_bytes-number.ensures, w.if-number-ge-MODULUS.true)))
        | else-number-ge-MODULUS w ↦ rw w.below-is c.loop-word.invariant.not_below
      ];
    }
