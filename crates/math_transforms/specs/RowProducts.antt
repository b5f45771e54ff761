-- Rows of cells times factors.
use Rattle.std.specs.Prelude.{ℕ, ◌+◌, ◌*◌, ◌<◌, List, slice_index_or}
use Rattle.math_base.specs.Members.{RingOf}

-- each new cell of the first n rows of c cells is same as the old one times the factor of its row
abbrev pub AreRowProducts : {A : Type 0} → RingOf A → ℕ → ℕ → (ℕ → A) → List A → List A → Type 0
AreRowProducts R n c factor old new =
    (i k : ℕ) → i < n → k < c → R.same (slice_index_or new (i * c + k) R.zero) (R.product (slice_index_or old (i * c + k) R.zero) (factor i))
