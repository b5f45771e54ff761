-- The modulus of the Goldilocks field.
use Rattle.std.specs.Prelude.{ℕ}

-- 2 ^ 64 - 2 ^ 32 + 1
abbrev pub P : ℕ
P = 18446744069414584321
