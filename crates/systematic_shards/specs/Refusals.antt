-- When each refusal is due.
use Rattle.std.specs.Prelude.{◌≡◌, ◌≢◌, ℕ, ◌*◌, ◌<◌, ◌≤◌, ◌⊎◌, List, [], length, map, slice_index_or, All, Contains, ⊤}
use Rattle.std.specs.List.{range_with_len}
use Rattle.math_fields.specs.declared.goldilocks.F.{F}
use Rattle.math_restoring.specs.Restored.{AreDistinct}
use Rattle.systematic_shards.specs.declared.Error.{Error}
use Rattle.systematic_shards.specs.declared.Error.TheVariants.{Memory, TooFew, Mismatch, Sizes, Index, Word, Conflict, Inconsistent}
use Rattle.systematic_shards.specs.declared.rows.Row.{Row}
use Rattle.systematic_shards.specs.declared.split.Split.{Split}
use Rattle.systematic_shards.specs.Shards.{AreWithinAt, BelongTo, IsCodewordOf, IsElementIn}

-- the cells of the row, of `bytes` bytes each, are as many bytes as a row has
abbrev pub HasLength : {M : Type 0} → ℕ → Split → Row M → Type 0
HasLength bytes split row = bytes * length row.cells.now ≡ 8 * split.width

-- the row has its length, and an index below `total`
abbrev pub IsSound : {M : Type 0} → ℕ → Split → Row M → Type 0
IsSound bytes split row = HasLength bytes split row × (row.index < split.total)

-- P holds of the first row that is not sound
pub record HasUnsound {M : Type 0} (bytes : ℕ) (split : Split) (P : Row M → Type 0) (rows : List (Row M)) : Type 0 where
  pub place : ℕ
  pub inside : place < length rows
  pub before : (i : ℕ) (d : Row M) → i < place → IsSound bytes split (slice_index_or rows i d)
  pub fault : (d : Row M) → P (slice_index_or rows place d)

-- there are rows, all are sound, and each index that is wanted is below `total`
abbrev pub AreAsked : {M : Type 0} → ℕ → Split → List (Row M) → List ℕ → Type 0
AreAsked bytes split rows wanted = (1 ≤ length rows) × All (IsSound bytes split) rows × All (λ i. i < split.total) wanted

-- each word of each row is one of an element
abbrev pub AreElements : {M : Type 0} → (List M → ℕ → ℕ) → Split → ℕ → List (Row M) → Type 0
AreElements word split mask rows = All (λ row. (k : ℕ) → k < split.width → IsElementIn split.min mask row.index (word row.cells.now k)) rows

-- two of the rows have one index, and a word that differs
pub record HaveConflict {M : Type 0} (word : List M → ℕ → ℕ) (split : Split) (rows : List (Row M)) : Type 0 where
  pub one : Row M
  pub other : Row M
  pub one_there : Contains rows one
  pub other_there : Contains rows other
  pub index : one.index ≡ other.index
  pub place : ℕ
  pub inside : place < split.width
  pub differ : word one.cells.now place ≢ word other.cells.now place

-- distinct indices, each the index of one of the rows
pub record AreIndicesAmong {M : Type 0} (rows : List (Row M)) (indices : List ℕ) : Type 0 where
  pub distinct : AreDistinct indices
  pub among : All (Contains (map (λ row. row.index) rows)) indices

-- the rows have `least` distinct indices, or more
abbrev pub HaveEnough : {M : Type 0} → ℕ → List (Row M) → Type 0
HaveEnough least rows = (indices : List ℕ) × AreIndicesAmong rows indices × (least ≤ length indices)

-- the rows are all rows of one codeword
abbrev pub HaveCodewordOf : {M : Type 0} → (List M → ℕ → ℕ) → Split → ℕ → List (Row M) → Type 0
HaveCodewordOf word split mask rows = (a : ℕ → ℕ → F) × IsCodewordOf split a × BelongTo word split mask rows a

-- two rows of one index differ, or the rows, of enough indices, do not all belong to one codeword
abbrev pub AreUnlike : {M : Type 0} → (List M → ℕ → ℕ) → Split → ℕ → List (Row M) → Type 0
AreUnlike word split mask rows = HaveConflict word split rows ⊎ (HaveEnough split.min rows × (¬ (HaveCodewordOf word split mask rows)))

-- which refusal is due to rows in hand from which the rows of some indices are wanted
abbrev pub IsDue : {M : Type 0} → ℕ → (List M → ℕ → ℕ) → Split → ℕ → List (Row M) → List ℕ → Error → Type 0
IsDue bytes word split mask rows wanted (Memory e) = ⊤
IsDue bytes word split mask rows wanted TooFew =
    (length rows ≡ 0) ⊎ (AreAsked bytes split rows wanted × AreElements word split mask rows × (¬ (HaveConflict word split rows)) × (¬ (HaveEnough split.min rows)))
IsDue bytes word split mask rows wanted Mismatch = HasUnsound bytes split (λ row. ¬ (HasLength bytes split row)) rows
IsDue bytes word split mask rows wanted Sizes = ⊥
IsDue bytes word split mask rows wanted Index =
    HasUnsound bytes split (λ row. HasLength bytes split row × (split.total ≤ row.index)) rows
    ⊎ ((1 ≤ length rows) × All (IsSound bytes split) rows × (¬ (All (λ i. i < split.total) wanted)))
IsDue bytes word split mask rows wanted Word = AreAsked bytes split rows wanted × (¬ (AreElements word split mask rows))
IsDue bytes word split mask rows wanted Conflict = AreAsked bytes split rows wanted × AreElements word split mask rows × HaveConflict word split rows
IsDue bytes word split mask rows wanted Inconsistent =
    AreAsked bytes split rows wanted × AreElements word split mask rows × HaveEnough split.min rows × (¬ (HaveConflict word split rows))
    × (¬ (HaveCodewordOf word split mask rows))

-- the rows belong to a codeword whose data rows have a byte past the end of the block that is not zero
abbrev pub HaveBytesPast : {M : Type 0} → (List M → ℕ → ℕ) → Split → ℕ → List (Row M) → Type 0
HaveBytesPast word split mask rows =
    (a : ℕ → ℕ → F) × IsCodewordOf split a × BelongTo word split mask rows a × (¬ (AreWithinAt split.size split mask a (range_with_len 0 split.min)))

-- which refusal is due to rows that are decoded: one that is due where no index is wanted, or that the data have a byte past their end
abbrev pub IsDecodeDue : {M : Type 0} → ℕ → (List M → ℕ → ℕ) → Split → ℕ → List (Row M) → Error → Type 0
IsDecodeDue bytes word split mask rows e =
    IsDue bytes word split mask rows [] e
    ⊎ ((e ≡ Inconsistent) × AreAsked bytes split rows [] × AreElements word split mask rows × HaveEnough split.min rows × HaveBytesPast word split mask rows)
