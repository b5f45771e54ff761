-- Sums of bytes.
use Rattle.std.specs.Prelude.{ℕ, ◌%◌, List, sum}
use Rattle.math_samples.specs.declared.quotients.TheConstants.{MODULUS}

-- the remainder by 97 of the sum of the bytes
abbrev pub remainder_of_sum : List ℕ → ℕ
remainder_of_sum bytes = sum bytes % MODULUS
