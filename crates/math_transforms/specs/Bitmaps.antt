-- The truth values of 2^lg points, one bit a point, in words of 64 bits.
use Rattle.std.specs.Prelude.{◌≡◌, ℕ, ◌-◌, ◌<◌, ◌^◌, ◌==◌, Bool, List, length, map, min}
use Rattle.std.specs.List.{All}
use Rattle.math_numbers.specs.Bits.{joined}

-- how many points one word holds: 64, or all of them where they are fewer
abbrev pub points_a_word : ℕ → ℕ
points_a_word lg = 2 ^ min lg 6

-- how many words hold the points: 2^lg / 64, or one where the points are fewer than 64
abbrev pub word_count : ℕ → ℕ
word_count lg = 2 ^ (lg - 6)

-- the truth values that the words hold, the lowest bit of the first word first
abbrev pub truth_values : ℕ → List ℕ → List Bool
truth_values lg words = map (λ b. b == 1) (joined (points_a_word lg) words)

-- there are as many words as the points need, and no bit is set beyond the points
pub record IsBitmap (lg : ℕ) (words : List ℕ) : Type 0 where
  pub small : lg < 64
  pub whole : length words ≡ word_count lg
  pub within : All (λ word. word < 2 ^ points_a_word lg) words
