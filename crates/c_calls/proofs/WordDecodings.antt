-- From what is decoded of elements to the words that are written.
use Rattle.std.proofs.Common.{arith, ◌≡◌, ℕ, ◌≤◌, ◌++◌, List, length, drop}
use Rattle.math_theory.specs.Interpolation.{AreApart}
use Rattle.math_fields.specs.declared.goldilocks.F.{F}
use Rattle.math_fields.specs.Elements.{same}
use Rattle.math_decoding.specs.Decodings.{IsDecoded}
use Rattle.c_calls.specs.WordDecodings.{AreDecodedWords}
use Rattle.c_calls.specs.WordElements.{AreElements, elements, numbers, goldilocks}
use Rattle.c_calls.proofs.WordElements.{elements_of_numbers, numbers_below}

pub decoded_words : (points values coefficients wrong wrong' : List ℕ) (items : List F) (places : List ℕ) (count k : ℕ) → AreElements points → AreElements values
    → AreApart same (elements points) → coefficients ≡ numbers items → k ≡ length coefficients → count ≡ length places → length places ≤ length wrong → wrong' ≡ places ++ drop count wrong
    → IsDecoded goldilocks (elements points) (elements values) k items places → AreDecodedWords points values coefficients wrong wrong' count
decoded_words points values coefficients wrong wrong' items places count k below below' apart written many is room stand d = grind (arith, numbers_below, elements_of_numbers)
