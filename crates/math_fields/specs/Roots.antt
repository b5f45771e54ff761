-- The roots of unity of the Goldilocks field, as numbers.
use Rattle.std.specs.Prelude.{ℕ, zero, suc, ◌-◌, ◌*◌, ◌%◌}
use Rattle.math_numbers.specs.Goldilocks.{P}

-- x squared k times, modulo P
abbrev pub squared : ℕ → ℕ → ℕ
squared zero x = x
squared (suc k) x = squared k x * squared k x % P

-- a root of order 2^32
abbrev pub greatest_root : ℕ
greatest_root = 0xee41f5320c4ea145

-- the root of order 2^lg: the greatest one squared 32 - lg times
abbrev pub root : ℕ → ℕ
root lg = squared (32 - lg) greatest_root

-- a number that is no power of any of the roots
abbrev pub shift : ℕ
shift = 0x79bc2f50acd74161
