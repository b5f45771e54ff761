-- Shards of which some are wrong, and the data that most of them have.
use Rattle.std.specs.Prelude.{◌≡◌, ℕ, ◌+◌, ◌<◌, ◌≤◌, ◌^◌, ◌==◌, ◌||◌, ◌&&◌, Bool, true, false, not, List, [], ◌∷◌, length, slice_index_or, Result}
use Rattle.std.specs.Int.{IsNextPowerOfTwo}
use Rattle.std.specs.List.{All, AllZip, Contains, filter, list_all}
use Rattle.std.specs.List.Sorted.{IsStrictlyIncreasing}
use Rattle.math_theory.specs.Coefficients.{coefficient}
use Rattle.math_fields.specs.declared.goldilocks.F.{F}
use Rattle.math_fields.specs.Elements.{number, residue, root_of, same, goldilocks}
use Rattle.math_ntt.specs.CorrectedRows.{IsCorrected}
use Rattle.math_ntt.specs.Evaluations.{EvaluationsOf}
use Rattle.math_transforms.specs.Matrices.{IsOfSize, MatrixOf, column_of, row_of}
use Rattle.math_splitting.specs.declared.shards.Shard.{Shard}
use Rattle.math_shards.specs.declared.shards.Error.{Error}
use Rattle.math_shards.specs.Joining.{HoldsShards, IsDueFor, IsSound, RefusesWhereDue}
use Rattle.math_splitting.specs.Shards.{IsShardOf, JoinTo, distinct_indices, width_for}

-- whether both lists of elements are same, place by place
abbrev pub are_same : List F → List F → Bool
are_same [] [] = true
are_same [] (y ∷ ys) = false
are_same (x ∷ xs) [] = false
are_same (x ∷ xs) (y ∷ ys) = (number x == number y) && are_same xs ys

-- whether each shard that has the index of s has the cells of s
abbrev pub is_settled : List Shard → Shard → Bool
is_settled shards s = list_all (λ t. not (t.index == s.index) || are_same t.cells.items s.cells.items) shards

-- the shards of the settled indices, which are the indices of which all shards have equal cells
abbrev pub settled : List Shard → List Shard
settled shards = filter (is_settled shards) shards

-- how many of the numbers below n are settled indices
abbrev pub settled_indices : ℕ → List Shard → ℕ
settled_indices n shards = distinct_indices n (settled shards)

-- the shard has the numbers of the data's shards, as many cells as they have, and an index below `total`
pub record HasNumbersOf (words : List ℕ) (min total : ℕ) (s : Shard) : Type 0 where
  pub index : s.index < total
  pub least : s.min ≡ min
  pub most : s.total ≡ total
  pub count : length s.cells.items ≡ width_for min words

-- the words are the data of the shards, of which some are wrong: of the m settled indices all but some e, where 2 e + min is at most m, have shards of the data
pub record CorrectTo (words : List ℕ) (shards : List Shard) : Type 0 where
  pub min : ℕ
  pub total : ℕ
  pub some : 1 ≤ min
  pub within : min ≤ total
  pub short : total < 2 ^ 32
  pub each_word : All (λ word. word < 2 ^ 64) words
  pub few : length words < 2 ^ 64
  pub numbers : All (HasNumbersOf words min total) shards
  pub wrong : List ℕ
  pub enough : length wrong + length wrong + min ≤ settled_indices total shards
  pub right : All (λ s. ¬ (Contains wrong s.index) → IsShardOf words min total s) (settled shards)

-- there are shards, and all are sound beside the first one
pub record AreSound (first : Shard) (shards : List Shard) : Type 0 where
  pub some : 0 < length shards
  pub sound : All (IsSound first) shards

-- the shards are the first one and others, all sound, and the rows of e are filled with the shards of settled indices
pub record AreSettledRows (lg : ℕ) (first : Shard) (shards : List Shard) (e : EvaluationsOf F) : Type 0 where
  pub short : first.total < 2 ^ 32
  pub next : IsNextPowerOfTwo first.total (2 ^ lg)
  pub holds : HoldsShards lg (length first.cells.items) (settled shards) e
  pub some : 0 < length shards
  pub sound : All (IsSound first) shards

-- the polynomials whose coefficients are the columns of q are corrected from rows that are filled with the shards of settled indices
pub record AreCorrectedRows (first : Shard) (shards : List Shard) (q : MatrixOf F) : Type 0 where
  pub lg : ℕ
  pub rows : EvaluationsOf F
  pub filled : AreSettledRows lg first shards rows
  pub wrong : List ℕ
  pub corrected : IsCorrected goldilocks (root_of lg) rows first.min q wrong

-- the matrix has `width` columns, which are polynomials of at most `min` coefficients, of which none is left out
pub record HaveFewCoefficients (min width : ℕ) (m : MatrixOf F) : Type 0 where
  pub some : 1 ≤ min
  pub rows : min ≤ m.rows
  pub size : IsOfSize m m.rows width
  pub short : (k i : ℕ) → k < m.cols → min ≤ i → same (coefficient (residue 0) (column_of (residue 0) m k) i) (residue 0)

-- by rising number, the positions of the shards of which P does not hold
pub record ArePositionsWithout (P : Shard → Type 0) (shards : List Shard) (positions : List ℕ) : Type 0 where
  pub rising : IsStrictlyIncreasing positions
  pub below : All (λ i. i < length shards) positions
  pub differ : All (λ i. (s : Shard) → slice_index_or shards i s ≡ s → ¬ (P s)) positions
  pub agree : (i : ℕ) (s : Shard) → i < length shards → slice_index_or shards i s ≡ s → ¬ (Contains positions i) → P s

-- the cells of the shard are the cells of the row of m that its index names
abbrev pub IsRowOf : MatrixOf F → Shard → Type 0
IsRowOf m s = AllZip same (row_of m s.index) s.cells.items

-- the words are the data of the shards, and the positions are the positions of the shards that are not shards of the data
abbrev pub AreCorrected : List ℕ → List ℕ → List Shard → Type 0
AreCorrected words positions shards = (c : CorrectTo words shards) × ArePositionsWithout (IsShardOf words c.min c.total) shards positions

-- shards have one list of data at most, however some of them are wrong
abbrev pub HaveOneCorrection : Type 0
HaveOneCorrection = (words others : List ℕ) (shards : List Shard) → CorrectTo words shards → CorrectTo others shards → words ≡ others

-- the data that shards join to are those that they are corrected to
abbrev pub JoinedAreCorrect : Type 0
JoinedAreCorrect = (words : List ℕ) (shards : List Shard) → JoinTo words shards → CorrectTo words shards

-- what is wrong with shards that are corrected: unequal cells of one index are no conflict, and settled indices count
abbrev pub IsDueCorrecting : List Shard → Error → Type 0
IsDueCorrecting = IsDueFor (λ _. ⊥) settled_indices CorrectTo

-- shards that are corrected are refused with the error only where it is due; and where it is due, they are, or memory ran out
abbrev pub RefusesCorrecting : {X : Type 0} → Result X Error → List Shard → Error → Type 0
RefusesCorrecting result shards = RefusesWhereDue result (IsDueCorrecting shards)
