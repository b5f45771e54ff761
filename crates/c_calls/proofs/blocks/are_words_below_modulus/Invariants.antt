use Rattle.std.proofs.Common.{◌≡◌, ◌<◌, true, false, All, take}
use Rattle.std.specs.Int.{from_be_bytes, w64}
use Rattle.math_numbers.specs.Goldilocks.{P}
use Rattle.c_calls.proofs.blocks.are_words_below_modulus.Given as goal

-- whether the words so far are below P
abbrev pub invariant-loop-word : goal.invariant-loop-word
invariant-loop-word l = record {
  below : l.below ≡ true → All (λ word. from_be_bytes w64 word < P) (take l.word-index l.words);
  not_below : l.below ≡ false → ¬ (All (λ word. from_be_bytes w64 word < P) l.words);
}
