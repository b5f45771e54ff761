-- Sums and differences of words modulo P.
use Rattle.std.specs.Prelude.{ℕ, ◌+◌, ◌-◌, ◌^◌, ◌%◌, if◌then◌else◌, nat_lt}
use Rattle.math_numbers.specs.Goldilocks.{P}

-- x - y as a word, with P added to it where y is above x
abbrev pub difference_of_words : ℕ → ℕ → ℕ
difference_of_words x y = if nat_lt x y then (x + P + (2 ^ 64 - y)) % 2 ^ 64 else x - y

-- x - (P - y) as a word, with P added to it where that is below zero
abbrev pub sum_of_words : ℕ → ℕ → ℕ
sum_of_words x y = difference_of_words x ((P + (2 ^ 64 - y)) % 2 ^ 64)
