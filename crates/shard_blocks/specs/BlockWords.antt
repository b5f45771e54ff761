-- Blocks of bytes as words.
use Rattle.std.specs.Prelude.{◌≡◌, ℕ, ◌<◌, ◌^◌, List, ◌∷◌, length, All}
use Rattle.math_numbers.specs.Bits.{joined}
use Rattle.math_fields.specs.Packing.{words_of_bits}

-- these are bytes, and fewer than 2^64
pub record AreBytes (bytes : List ℕ) : Type 0 where
  pub each_byte : All (λ byte. byte < 256) bytes
  pub few : length bytes < 2 ^ 64

-- the bits of bytes: eight of each, the lowest first
abbrev pub byte_bits : List ℕ → List ℕ
byte_bits bytes = joined 8 bytes

-- how many bytes there are, and then the words that their bits write, the last one filled with zeros
abbrev pub words_of_bytes : List ℕ → List ℕ
words_of_bytes bytes = length bytes ∷ words_of_bits (byte_bits bytes)

-- the words are the words of this block of bytes
abbrev pub IsBlockOf : List ℕ → List ℕ → Type 0
IsBlockOf words bytes = AreBytes bytes × (words ≡ words_of_bytes bytes)
