-- What restores columns of cells at given indices: the places and factors of their rows in a room, and what becomes of the room.
use Rattle.std.specs.Prelude.{ℕ, ◌<◌, ◌^◌, List}
use Rattle.math_fields.specs.declared.goldilocks.F.{F}
use Rattle.math_fields.specs.Elements.{residue}
use Rattle.math_transforms.specs.DomainValues.{matrix_of}
use Rattle.math_transforms.specs.Matrices.{column_of}
use Rattle.math_restoring.specs.declared.restoring.Restorer.{Restorer}
use Rattle.math_restoring.specs.Restored.{ArePlaced, FitsAt}

-- the indices of the rows that columns are restored from
abbrev pub indices_of : Restorer → List ℕ
indices_of r = r.indices.items

-- lg, where a room has 2^lg rows, and the indices are powers of the root of this order
abbrev pub lg_of : Restorer → ℕ
lg_of r = r.division.lg

-- part, where coefficients stand in the first 2^part rows of a room
abbrev pub part_of : Restorer → ℕ
part_of r = r.division.part

-- the places of the indices among the rows
abbrev pub places_of : Restorer → List ℕ
places_of r = r.places.items

-- the factors of the places
abbrev pub factors_of : Restorer → List F
factors_of r = r.division.factors.items

-- in a room of c columns the row at the place of index number t has the cells of row t, times the factor of the place, and the other rows have zeros
abbrev pub ArePlacedBy : Restorer → ℕ → (ℕ → ℕ → F) → List F → Type 0
ArePlacedBy r c cell room = ArePlaced (2 ^ lg_of r) (places_of r) (factors_of r) c cell room

-- each of c columns has, in the first rows of the room, the coefficients of a polynomial whose values at the indices are the cells of the column
abbrev pub AreRestoredBy : Restorer → ℕ → (ℕ → ℕ → F) → List F → Type 0
AreRestoredBy r c cell room = (k : ℕ) → k < c → FitsAt (lg_of r) (indices_of r) (λ t. cell t k) (column_of (residue 0) (matrix_of (2 ^ part_of r) c room) k)
