-- The laws of a field with roots of unity, up to a type's own equality.
use Rattle.std.specs.Prelude.{ℕ, suc, ◌<◌, ◌≤◌, ◌^◌}
use Rattle.math_theory.specs.Domains.{HasExactOrder, IsNoPower}

-- roots of order exactly 2^lg up to the greatest lg, each the square of the next, a shift other than zero that is no power of any of them, and halves
pub record HasRootsOfUnity {A : Type 0} (same : A → A → Type 0) (zero : A) (sum : A → A → A) (product : A → A → A) (one : A)
    (greatest : ℕ) (root : ℕ → A) (shift : A) (half : A → A) : Type 0 where
  pub order : (lg : ℕ) → lg ≤ greatest → HasExactOrder same one product (root lg) (2 ^ lg)
  pub square : (lg : ℕ) → lg < greatest → same (product (root (suc lg)) (root (suc lg))) (root lg)
  pub shift_is_not_zero : same shift zero → ⊥
  pub shift_is_no_power : (lg : ℕ) → lg ≤ greatest → IsNoPower same one product (root lg) shift
  pub respects_half : (a b : A) → same a b → same (half a) (half b)
  pub half_twice : (a : A) → same (product (half a) (sum one one)) a
