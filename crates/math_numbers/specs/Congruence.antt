-- Congruence modulo a number.
use Rattle.std.specs.Prelude.{◌≡◌, ℕ, ◌-◌, ◌%◌}
use Rattle.math_numbers.specs.PowersModulo.{power_mod}

-- a and b have the same remainder by n
abbrev pub congruent : ℕ → ℕ → ℕ → Type 0
congruent n a b = a % n ≡ b % n

-- the distance from the remainder of a to n, which is congruent to minus a
abbrev pub negative_mod : ℕ → ℕ → ℕ
negative_mod n a = n - a % n

-- the power p - 2, which is inverse to a modulo a prime p
abbrev pub inverse_mod : ℕ → ℕ → ℕ
inverse_mod p a = power_mod p a (p - 2)
