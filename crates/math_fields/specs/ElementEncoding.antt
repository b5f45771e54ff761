-- An element of the Goldilocks field in bytes: its number as a word.
use Rattle.std.specs.Prelude.{ℕ, List, Result, Ok, Err, nat_lt, if◌then◌else◌, codes}
use Rattle.math_numbers.specs.Goldilocks.{P}
use Rattle.math_codec.specs.Faults.{Fault, Invalid, ◌>>=◌}
use Rattle.math_codec.specs.Words.{scan_word, word_in_front}

-- what a read of an element leaves, or the first fault: the word's own faults, and then that the word is not below P
unfoldable pub scan_element : List ℕ → Result (List ℕ) Fault
scan_element bytes = do
  rest ← scan_word bytes
  if nat_lt (word_in_front bytes) P then Ok rest else Err (Invalid (codes "F") (codes "out of range"))
