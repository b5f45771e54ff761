use Rattle.std.proofs.Common.{ℕ, zero, suc, ◌<◌, ◌^◌, ap, arith}
use Rattle.std.proofs.Math.Nat.{pow-suc}
use Rattle.examples.proofs.show_recovery.Goals as goal

-- a number is below that power of two
below-power : (n : ℕ) → n < 2 ^ n
below-power zero = omega arith
below-power (suc n) = omega (arith, below-power n, pow-suc 2 n)

pub from_matrix-polynomials-requires : goal.from_matrix-polynomials-requires
from_matrix-polynomials-requires c = (2, c.from_cells.ensures.size.0)

pub keep_and_recover-requires-clause-domain : goal.keep_and_recover-requires-clause-domain
keep_and_recover-requires-clause-domain c lg e =
    omega (arith, below-power lg, e, ap (λ m. m.rows) c.from_matrix-polynomials.ensures, c.from_cells.ensures.size.0)
