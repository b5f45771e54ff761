-- Words: eight bytes, highest first.
use Rattle.std.specs.Prelude.{ℕ, List, length, take, drop, Result, Ok, Err, nat_lt, if◌then◌else◌}
use Rattle.std.specs.Int.{w64, from_be_bytes}
use Rattle.math_codec.specs.Faults.{Fault, EndOfBuffer}

-- what a read of a word leaves, or the fault
abbrev pub scan_word : List ℕ → Result (List ℕ) Fault
scan_word bytes = if nat_lt (length bytes) 8 then Err EndOfBuffer else Ok (drop 8 bytes)

-- the word that stands in front
abbrev pub word_in_front : List ℕ → ℕ
word_in_front bytes = from_be_bytes w64 (take 8 bytes)
