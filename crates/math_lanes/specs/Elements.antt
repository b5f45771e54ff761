-- Lanes of vectors as elements of the Goldilocks field: numbers below P.
use Rattle.std.specs.Prelude.{ℕ, ◌+◌, ◌-◌, ◌*◌, ◌^◌, ◌%◌, ◌<◌, List}
use Rattle.std.specs.Simd.Lanes.{Each1}
use Rattle.math_numbers.specs.Goldilocks.{P}

-- each lane is below P
abbrev pub AreElements : List ℕ → Type 0
AreElements lanes = Each1 (λ x. x < P) lanes

-- the remainder of x + y by P
abbrev pub sum : ℕ → ℕ → ℕ
sum x y = (x + y) % P

-- the remainder of P + x - y by P
abbrev pub difference : ℕ → ℕ → ℕ
difference x y = (x + P - y) % P

-- the remainder of x y by P
abbrev pub product : ℕ → ℕ → ℕ
product x y = x * y % P

-- the remainder of low + 2^64 high by P
abbrev pub reduced : ℕ → ℕ → ℕ
reduced low high = (low + 2 ^ 64 * high) % P
