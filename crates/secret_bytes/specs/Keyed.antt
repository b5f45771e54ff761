-- Bytes, a key and a check as elements.
use Rattle.std.specs.Prelude.{◌≡◌, ◌+◌, ℕ, List, [], ◌∷◌, ◌++◌}
use Rattle.math_fields.specs.declared.goldilocks.F.{F}
use Rattle.math_fields.specs.Elements.{same}
use Rattle.secret_bytes.specs.KeyChecks.{check_at}
use Rattle.secret_bytes.specs.Packings.{ArePackedBytes, number_count}

-- the elements of the bytes, a key, and the check of these elements under the key
pub record AreKeyed (bytes : List ℕ) (all : List F) : Type 0 where
  pub elements : List F
  pub key : F
  pub check : F
  pub packed : ArePackedBytes elements bytes
  pub fits : same check (check_at elements key)
  pub parts : all ≡ elements ++ (key ∷ check ∷ [])

-- the elements of the bytes, this key, and the check of these elements under it
abbrev pub AreKeyedBy : F → List ℕ → List F → Type 0
AreKeyedBy key bytes all = (k : AreKeyed bytes all) × (k.key ≡ key)

-- how many elements n bytes have with a key and a check
abbrev pub element_count : ℕ → ℕ
element_count n = number_count n + 3
