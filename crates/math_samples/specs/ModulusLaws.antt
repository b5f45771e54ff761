-- The modulus of the quotients is prime.
use Rattle.std.specs.Prelude.{ℕ, ◌*◌, ◌%◌, ◌<◌}
use Rattle.std.proofs.Common.{lit<, refl}
use Rattle.std.proofs.Math.Nat.{mod-lt}
use Rattle.math_numbers.specs.Primes.{IsPrime}
use Rattle.math_numbers.proofs.PowersModulo.{power_mod-by_squaring}
use Rattle.math_numbers.proofs.Primes.{proth}
use Rattle.math_numbers.proofs.InversesModulo.{product_mod-positive}
use Rattle.math_samples.specs.declared.quotients.TheConstants.{MODULUS}

pub remainder_below : (n : ℕ) → n % MODULUS < MODULUS
remainder_below n = mod-lt n (lit< tt)

-- by Proth's test: 97 is 3 times 2^5 plus one, and the power of 8 to 2^3 is congruent to minus one
pub modulus_is_prime : IsPrime MODULUS
modulus_is_prime = proth MODULUS 8 3 (lit< tt) refl (power_mod-by_squaring 4 MODULUS 8 8 (lit< tt)) (lit< tt)

-- no product of two numbers from 1 to 96 is a multiple of 97
pub product_above : (b d : ℕ) → 0 < b → b < MODULUS → 0 < d → d < MODULUS → 0 < b * d % MODULUS
product_above b d b_above b_below d_above d_below = product_mod-positive MODULUS b d modulus_is_prime b_above b_below d_above d_below
