-- Domains of a field.
use Rattle.std.specs.Prelude.{ℕ, ◌<◌, ◌≤◌}

-- the field, whose domains have up to 2^most points, has one of 2^lg, and a usize holds their number
abbrev pub IsDomain : ℕ → ℕ → Type 0
IsDomain most lg = (lg ≤ most) × (lg < 64)
