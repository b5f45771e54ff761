-- Prime numbers.
use Rattle.std.specs.Prelude.{◌≡◌, ℕ, ◌*◌, ◌<◌}

-- p is above one, and no product of two numbers above one
pub record IsPrime (p : ℕ) : Type 0 where
  pub above_one : 1 < p
  pub no_factors : (d e : ℕ) → d * e ≡ p → 1 < d → 1 < e → ⊥
