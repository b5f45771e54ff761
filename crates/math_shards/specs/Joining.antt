-- What is wrong with shards that give no data back.
use Rattle.std.specs.Prelude.{◌≡◌, ℕ, ◌<◌, ◌≤◌, ◌^◌, ◌⊎◌, false, List, [], ◌∷◌, ◌++◌, length, map, slice_index, slice_index_or, All, Any, Result, Err, MatchResult, ⊤}
use Rattle.std.specs.List.{AllZip, Contains}
use Rattle.std.specs.List.Sorted.{IsStrictlyIncreasing}
use Rattle.math_fields.specs.Elements.{residue, same}
use Rattle.math_fields.specs.declared.goldilocks.F.{F}
use Rattle.math_ntt.specs.Evaluations.{EvaluationsOf}
use Rattle.math_transforms.specs.Matrices.{MatrixOf, IsOfSize, row_of}
use Rattle.math_ntt.specs.PolynomialRows.{HaveSamePolynomials}
use Rattle.math_splitting.specs.declared.shards.Shard.{Shard}
use Rattle.math_shards.specs.declared.shards.Error.{Error}
use Rattle.math_shards.specs.declared.shards.Error.TheVariants.{Memory, TooFew, Mismatch, Index, Conflict, Inconsistent}
use Rattle.math_shards.specs.Fitting.{DoRowsFit, distinct_among}
use Rattle.math_splitting.specs.Shards.{JoinTo, distinct_indices, has_index, rows_for, width_for}

-- the shard has the numbers of the first one and as many cells, and its numbers are such as shards have
pub record Matches (first s : Shard) : Type 0 where
  pub least : s.min ≡ first.min
  pub most : s.total ≡ first.total
  pub count : length s.cells.items ≡ length first.cells.items
  pub some : 1 ≤ s.min
  pub within : s.min ≤ s.total

-- the shard matches the first one, and its index is below `total`
abbrev pub IsSound : Shard → Shard → Type 0
IsSound first s = Matches first s × (s.index < s.total)

-- P holds of the first shard that is not sound
pub record HasUnsound (first : Shard) (P : Shard → Type 0) (shards : List Shard) : Type 0 where
  pub before : List Shard
  pub found : Shard
  pub after : List Shard
  pub parts : shards ≡ before ++ found ∷ after
  pub sound : All (IsSound first) before
  pub fault : P found

-- two rows, each with an index and cells, have one index and unequal cells
abbrev pub HaveUnequalCells : {R : Type 0} → (R → ℕ) → (R → List F) → List R → Type 0
HaveUnequalCells index cells rows = Any (λ r. Any (λ t. (index t ≡ index r) × ¬ (AllZip same (cells t) (cells r))) rows) rows

-- two shards have one index and unequal cells
abbrev pub HaveConflict : List Shard → Type 0
HaveConflict shards = HaveUnequalCells (λ s. s.index) (λ s. s.cells.items) shards

-- there is a place for each of the indices: where some of the first n rows have the index, the place of a row of this index that has the
-- cells of each of them; and otherwise no place of a row
pub record ArePlacesByIndex {R : Type 0} (index : R → ℕ) (cells : R → List F) (indices : List ℕ) (rows : List R) (n : ℕ) (places : List ℕ) : Type 0 where
  pub size : length places ≡ length indices
  pub of_index : (p : ℕ) (d : R) → p < length indices → slice_index places p < length rows → index (slice_index_or rows (slice_index places p) d) ≡ slice_index indices p
  pub there : (k p : ℕ) (d : R) → k < n → p < length indices → slice_index indices p ≡ index (slice_index_or rows k d) → slice_index places p < length rows
  pub equal : (k p : ℕ) (d : R) → k < n → p < length indices → slice_index indices p ≡ index (slice_index_or rows k d)
      → AllZip same (cells (slice_index_or rows (slice_index places p) d)) (cells (slice_index_or rows k d))

-- the indices rise, and the index of each row is among them; each row has `width` cells
pub record AreIndexed {R : Type 0} (index : R → ℕ) (cells : R → List F) (width : ℕ) (indices : List ℕ) (rows : List R) : Type 0 where
  pub rising : IsStrictlyIncreasing indices
  pub there : All (λ row. Contains indices (index row)) rows
  pub count : All (λ row. length (cells row) ≡ width) rows

-- what is wrong with rows that fit no data: unequal cells of one index; without these, too few distinct indices; and without both, that
-- there are no data
abbrev pub IsDueOfRows : {R : Type 0} → (R → ℕ) → (R → List F) → ℕ → ℕ → List R → Error → Type 0
IsDueOfRows index cells min total rows (Memory e) = ⊥
IsDueOfRows index cells min total rows Mismatch = ⊥
IsDueOfRows index cells min total rows Index = ⊥
IsDueOfRows index cells min total rows Conflict = HaveUnequalCells index cells rows
IsDueOfRows index cells min total rows TooFew = ¬ (HaveUnequalCells index cells rows) × (distinct_among total (map index rows) < min)
IsDueOfRows index cells min total rows Inconsistent =
    ¬ (HaveUnequalCells index cells rows) × (min ≤ distinct_among total (map index rows)) × ((words : List ℕ) → ¬ (DoRowsFit index cells words min total rows))

-- the error says that a shard has other numbers than the first, or an index out of range, and the first shard that is not sound has this
-- fault
abbrev pub IsUnsound : Shard → List Shard → Error → Type 0
IsUnsound first shards (Memory e) = ⊥
IsUnsound first shards TooFew = ⊥
IsUnsound first shards Mismatch = HasUnsound first (λ s. ¬ (Matches first s)) shards
IsUnsound first shards Index = HasUnsound first (λ s. Matches first s × (s.total ≤ s.index)) shards
IsUnsound first shards Conflict = ⊥
IsUnsound first shards Inconsistent = ⊥

-- what is wrong where there is a first shard, for each error but that memory ran out; the arguments are what a conflict is, how many
-- indices count, and which words are data of the shards
abbrev pub IsDueBeside : Type 0 → ℕ → (List ℕ → Type 0) → Shard → List Shard → Error → Type 0
IsDueBeside conflict indices data_of first shards (Memory e) = ⊤
IsDueBeside conflict indices data_of first shards Mismatch = IsUnsound first shards Mismatch
IsDueBeside conflict indices data_of first shards Index = IsUnsound first shards Index
IsDueBeside conflict indices data_of first shards Conflict = All (IsSound first) shards × conflict
IsDueBeside conflict indices data_of first shards TooFew = (All (IsSound first) shards × ¬ conflict) × (indices < first.min)
IsDueBeside conflict indices data_of first shards Inconsistent =
    (All (IsSound first) shards × ¬ conflict) × (first.min ≤ indices) × ((words : List ℕ) → ¬ (data_of words))

-- what is wrong where there is no shard: there are too few
abbrev pub IsDueOfNone : Error → Type 0
IsDueOfNone (Memory e) = ⊤
IsDueOfNone TooFew = ⊤
IsDueOfNone Mismatch = ⊥
IsDueOfNone Index = ⊥
IsDueOfNone Conflict = ⊥
IsDueOfNone Inconsistent = ⊥

-- what is wrong with the shards, for each error but that memory ran out; the arguments say of shards what a conflict is, how many indices
-- below a number count, and which words are their data
abbrev pub IsDueFor : (List Shard → Type 0) → (ℕ → List Shard → ℕ) → (List ℕ → List Shard → Type 0) → List Shard → Error → Type 0
IsDueFor conflict indices data_of [] e = IsDueOfNone e
IsDueFor conflict indices data_of (first ∷ rest) e =
    let shards = first ∷ rest in
    IsDueBeside (conflict shards) (indices first.total shards) (λ words. data_of words shards) first shards e

-- what is wrong with shards that are joined: unequal cells of one index are a conflict, and distinct indices count
abbrev pub IsDue : List Shard → Error → Type 0
IsDue = IsDueFor HaveConflict distinct_indices JoinTo

-- the error says that memory ran out
abbrev pub IsMemory : Error → Type 0
IsMemory (Memory e) = ⊤
IsMemory TooFew = ⊥
IsMemory Mismatch = ⊥
IsMemory Index = ⊥
IsMemory Conflict = ⊥
IsMemory Inconsistent = ⊥

-- the answer is the error only where it is due; and where it is due, the answer is the error, or memory ran out
abbrev pub RefusesWhereDue : {X : Type 0} → Result X Error → (Error → Type 0) → Error → Type 0
RefusesWhereDue result due e = (result ≡ Err e → due e) × (due e → MatchResult result (λ _. ⊥) (λ f. (f ≡ e) ⊎ IsMemory f))

-- shards that are joined are refused with the error only where it is due; and where it is due, they are, or memory ran out
abbrev pub RefusesExactly : {X : Type 0} → Result X Error → List Shard → Error → Type 0
RefusesExactly result shards = RefusesWhereDue result (IsDue shards)

-- the row of each shard's index holds its cells, and exactly these rows are filled
pub record HoldsShards (lg width : ℕ) (shards : List Shard) (e : EvaluationsOf F) : Type 0 where
  pub size : IsOfSize e.matrix (2 ^ lg) width
  pub places : length e.filled ≡ 2 ^ lg
  pub marks : (i : ℕ) → i < 2 ^ lg → slice_index_or e.filled i false ≡ has_index shards i
  pub cells : All (λ s. AllZip same (row_of e.matrix s.index) s.cells.items) shards

-- the columns of the recovered matrix are the polynomials of the words
abbrev pub ArePolynomialsOf : List ℕ → ℕ → MatrixOf F → Type 0
ArePolynomialsOf words min m = (m.cols ≡ width_for min words) × HaveSamePolynomials same (residue 0) m (rows_for min words)
