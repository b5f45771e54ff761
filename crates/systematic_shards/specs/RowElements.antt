-- Rows in hand as rows of elements.
use Rattle.std.specs.Prelude.{ℕ, List}
use Rattle.math_fields.specs.declared.goldilocks.F.{F}
use Rattle.math_restoring.specs.Restored.{item}
use Rattle.systematic_shards.specs.declared.making.RowElements.{RowElements}
use Rattle.systematic_shards.specs.Shards.{column_of_rows}

-- the element of row t in column k; the first argument is what the words of a row are
abbrev pub element_at : {M : Type 0} → (List M → ℕ → ℕ) → RowElements M → ℕ → ℕ → F
element_at word r t k = item (column_of_rows word r.code.split.min r.code.mask r.rows.now k) t
