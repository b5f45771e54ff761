-- One row of each index among rows in hand.
use Rattle.std.specs.Prelude.{◌≡◌, ◌≢◌, ℕ, ◌-◌, ◌<◌, ◌≤◌, ◌⊎◌, List, [], ◌∷◌, ◌++◌, length, map, slice_index_or, All, Contains}
use Rattle.std.specs.List.Sorted.{IsStrictlyIncreasing}
use Rattle.systematic_shards.specs.declared.rows.Row.{Row}
use Rattle.systematic_shards.specs.declared.split.Split.{Split}
use Rattle.systematic_shards.specs.Refusals.{AreElements, HaveCodewordOf}
use Rattle.math_transforms.specs.RootWeights.{AreRising}

-- both rows have one index, and the same words
pub record AreCopies {M : Type 0} (word : List M → ℕ → ℕ) (width : ℕ) (one other : Row M) : Type 0 where
  pub index : one.index ≡ other.index
  pub words : (k : ℕ) → k < width → word one.cells.now k ≡ word other.cells.now k

-- the last of the rows that are kept is a copy of the row
pub record IsLikeLast {M : Type 0} (word : List M → ℕ → ℕ) (width : ℕ) (row : Row M) (kept : List (Row M)) : Type 0 where
  pub some : 1 ≤ length kept
  pub like : (d : Row M) → AreCopies word width (slice_index_or kept (length kept - 1) d) row

-- the last of the rows that are kept has the index of the row, and a word that differs
pub record IsUnlikeLast {M : Type 0} (word : List M → ℕ → ℕ) (width : ℕ) (row : Row M) (kept : List (Row M)) : Type 0 where
  pub some : 1 ≤ length kept
  pub index : (d : Row M) → (slice_index_or kept (length kept - 1) d).index ≡ row.index
  pub place : ℕ
  pub inside : place < width
  pub differ : (d : Row M) → word (slice_index_or kept (length kept - 1) d).cells.now place ≢ word row.cells.now place

-- the last of the rows that are kept, if there is one, has another index than the row
abbrev pub HasOtherLast : {M : Type 0} → Row M → List (Row M) → Type 0
HasOtherLast {M} row kept = (d : Row M) → 1 ≤ length kept → (slice_index_or kept (length kept - 1) d).index ≢ row.index

-- the row is a copy of the last one that is kept, or it is kept behind it
abbrev pub IsKeptWith : {M : Type 0} → (List M → ℕ → ℕ) → ℕ → Row M → List (Row M) → List (Row M) → Type 0
IsKeptWith word width row old new = (IsLikeLast word width row old × (new ≡ old)) ⊎ (HasOtherLast row old × (new ≡ old ++ row ∷ []))

-- rows of rising indices, each one of the first n rows; and each of these is a copy of one of them
pub record AreKept {M : Type 0} (word : List M → ℕ → ℕ) (width : ℕ) (rows : List (Row M)) (n : ℕ) (kept : List (Row M)) : Type 0 where
  pub rise : IsStrictlyIncreasing (map (λ row. row.index) kept)
  pub from : (p : ℕ) (d : Row M) → p < length kept → (i : ℕ) × (i < n) × (slice_index_or kept p d ≡ slice_index_or rows i d)
  pub each : (i : ℕ) (d : Row M) → i < n → (p : ℕ) × (p < length kept) × AreCopies word width (slice_index_or kept p d) (slice_index_or rows i d)

-- rows of rising indices, each one of the rows; and each of these is a copy of one of them
pub record AreOneOfEach {M : Type 0} (word : List M → ℕ → ℕ) (width : ℕ) (rows kept : List (Row M)) : Type 0 where
  pub rise : IsStrictlyIncreasing (map (λ row. row.index) kept)
  pub from : All (Contains rows) kept
  pub each : All (λ row. (other : Row M) × Contains kept other × AreCopies word width other row) rows

-- these are the indices of the rows, by rising index; the rows are `min` or more
pub record AreIndexed {M : Type 0} (split : Split) (indices : List ℕ) (held : List (Row M)) : Type 0 where
  pub are : indices ≡ map (λ row. row.index) held
  pub rising : AreRising split.total indices
  pub enough : split.min ≤ length held

-- one row of each index, with their indices; all rows have words of elements, and belong to one codeword
pub record AreHeld {M : Type 0} (word : List M → ℕ → ℕ) (split : Split) (mask : ℕ) (rows : List (Row M)) (indices : List ℕ) (held : List (Row M)) : Type 0 where
  pub kept : AreOneOfEach word split.width rows held
  pub indexed : AreIndexed split indices held
  pub elements : AreElements word split mask rows
  pub codeword : HaveCodewordOf word split mask rows
