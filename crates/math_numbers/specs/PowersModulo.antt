-- Powers modulo a number, and their order.
use Rattle.std.specs.Prelude.{◌≡◌, ◌≢◌, ℕ, zero, suc, ◌*◌, ◌%◌, ◌<◌, refl}

-- the remainder of x to the power k by n
unfoldable pub power_mod : ℕ → ℕ → ℕ → ℕ
power_mod n x zero = 1 % n
power_mod n x (suc k) = power_mod n x k * x % n

pub power_mod-zero : (n x : ℕ) → power_mod n x 0 ≡ 1 % n
unfolding power_mod
power_mod-zero n x = refl

pub power_mod-suc : (n x k : ℕ) → power_mod n x (suc k) ≡ power_mod n x k * x % n
unfolding power_mod
power_mod-suc n x k = refl

-- modulo n, t is the least positive exponent at which the power of x is one
pub record HasOrder (n x t : ℕ) : Type 0 where
  pub positive : 0 < t
  pub power_is_one : power_mod n x t ≡ 1 % n
  pub least : (m : ℕ) → 0 < m → m < t → power_mod n x m ≢ 1 % n
