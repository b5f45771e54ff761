-- Domains: the powers of a root of unity, and their cosets.
use Rattle.std.specs.Prelude.{ℕ, zero, suc, ◌<◌, ◌^◌, List, map}
use Rattle.math_theory.specs.Powers.{power, powers}

-- n is the least positive exponent at which the power of w is one
pub record HasExactOrder {A : Type 0} (same : A → A → Type 0) (one : A) (product : A → A → A) (w : A) (n : ℕ) : Type 0 where
  pub positive : 0 < n
  pub power_is_one : same (power one product w n) one
  pub least : (m : ℕ) → 0 < m → m < n → same (power one product w m) one → ⊥

-- w is one where lg is zero, and otherwise its power at half of 2 ^ lg is minus one
abbrev pub IsPrincipalRoot : {A : Type 0} → (A → A → Type 0) → A → (A → A) → (A → A → A) → ℕ → A → Type 0
IsPrincipalRoot same one negative product zero w = same w one
IsPrincipalRoot same one negative product (suc lg) w = same (power one product w (2 ^ lg)) (negative one)

-- s is no power of w
abbrev pub IsNoPower : {A : Type 0} → (A → A → Type 0) → A → (A → A → A) → A → A → Type 0
IsNoPower same one product w s = (m : ℕ) → same s (power one product w m) → ⊥

-- the first n powers of w, each times s
abbrev pub coset : {A : Type 0} → A → (A → A → A) → A → A → ℕ → List A
coset one product s w n = map (product s) (powers one product w n)
