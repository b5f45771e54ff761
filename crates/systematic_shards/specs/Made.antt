-- Elements of the rows of target indices, made from rows in hand.
use Rattle.std.specs.Prelude.{◌≡◌, ℕ, ◌+◌, ◌*◌, ◌<◌, List, length, map, slice_index, All, Contains}
use Rattle.math_fields.specs.declared.goldilocks.F.{F}
use Rattle.math_fields.specs.Elements.{same}
use Rattle.math_restoring.specs.Restored.{item}
use Rattle.math_transforms.specs.RootWeights.{AreRising}
use Rattle.systematic_shards.specs.declared.rows.Row.{Row}
use Rattle.systematic_shards.specs.declared.split.Split.{Split}
use Rattle.systematic_shards.specs.Shards.{BelongTo, IsCodewordOf}

-- there are `min` rows, of these indices, which rise; and each target is below `total`, and not among them
pub record AreSourcesFor {M : Type 0} (split : Split) (rows : List (Row M)) (indices targets : List ℕ) : Type 0 where
  pub are : indices ≡ map (λ row. row.index) rows
  pub count : length rows ≡ split.min
  pub rising : AreRising split.total indices
  pub below : All (λ i. i < split.total) targets
  pub missing : All (λ i. ¬ (Contains indices i)) targets

-- a is a codeword to which the rows belong
abbrev pub IsCodewordThrough : {M : Type 0} → (List M → ℕ → ℕ) → Split → ℕ → List (Row M) → (ℕ → ℕ → F) → Type 0
IsCodewordThrough word split mask rows a = IsCodewordOf split a × BelongTo word split mask rows a

-- item j * cols + c of the list is the cell of a in column from + c of the row of index number j
abbrev pub AreCellsOf : (ℕ → ℕ → F) → List ℕ → ℕ → ℕ → List F → Type 0
AreCellsOf a indices from cols made = (j c : ℕ) → j < length indices → c < cols → same (item made (j * cols + c)) (a (slice_index indices j) (from + c))
