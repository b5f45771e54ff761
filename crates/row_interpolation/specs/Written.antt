-- Values that are written in places of their own.
use Rattle.std.specs.Prelude.{◌≡◌, ◌≢◌, ℕ, ◌<◌}

-- n values are written, value k in place k of theirs, and what stands in other places is as it was
pub record AreWritten {X : Type 0} (place : ℕ → ℕ) (value : ℕ → X) (n : ℕ) (old new : ℕ → X) : Type 0 where
  pub written : (k : ℕ) → k < n → new (place k) ≡ value k
  pub others : (i : ℕ) → ((k : ℕ) → k < n → i ≢ place k) → new i ≡ old i
