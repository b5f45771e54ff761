-- Functions on the numbers below a bound.
use Rattle.std.specs.Prelude.{◌≢◌, ℕ, ◌<◌}

-- the values of f at the numbers below m lie below n
abbrev pub MapsBelow : (ℕ → ℕ) → ℕ → ℕ → Type 0
MapsBelow f m n = (i : ℕ) → i < m → f i < n

-- f takes no value twice at the numbers below m
abbrev pub DistinctBelow : (ℕ → ℕ) → ℕ → Type 0
DistinctBelow f m = (i j : ℕ) → i < j → j < m → f i ≢ f j
