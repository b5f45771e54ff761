-- Rows of which some are wrong, and the codeword near them.
use Rattle.std.specs.Prelude.{◌≡◌, ◌↔◌, ℕ, ◌+◌, ◌*◌, ◌<◌, ◌≤◌, ◌^◌, ◌⊎◌, List, Bool, true, false, length, slice_index_or, All, Any, Contains, ⊤}
use Rattle.std.specs.Int.{IsNextPowerOfTwo}
use Rattle.std.specs.List.Sorted.{IsStrictlyIncreasing}
use Rattle.math_fields.specs.declared.goldilocks.F.{F}
use Rattle.math_fields.specs.Elements.{same}
use Rattle.math_ntt.specs.Evaluations.{EvaluationsOf}
use Rattle.math_restoring.specs.Restored.{item}
use Rattle.math_transforms.specs.Matrices.{IsOfSize}
use Rattle.systematic_shards.specs.declared.Error.{Error}
use Rattle.systematic_shards.specs.declared.Error.TheVariants.{Memory, TooFew, Mismatch, Sizes, Index, Word, Conflict, Inconsistent}
use Rattle.systematic_shards.specs.declared.rows.Row.{Row}
use Rattle.systematic_shards.specs.declared.split.Split.{Split}
use Rattle.systematic_shards.specs.Codewords.{AreSameRows}
use Rattle.systematic_shards.specs.Errors.{IsMemory}
use Rattle.systematic_shards.specs.Refusals.{AreAsked, IsDue}
use Rattle.systematic_shards.specs.Shards.{IsCodewordOf, IsElementIn, IsRowOf, element_in}
use Rattle.math_transforms.specs.RootWeights.{AreRising}

-- each word of the row is one of an element
abbrev pub HasElements : {M : Type 0} → (List M → ℕ → ℕ) → Split → ℕ → Row M → Type 0
HasElements word split mask row = (k : ℕ) → k < split.width → IsElementIn split.min mask row.index (word row.cells.now k)

-- where the other row has the index of the row, and words of elements, these are the words of the row
abbrev pub Agrees : {M : Type 0} → (List M → ℕ → ℕ) → Split → ℕ → Row M → Row M → Type 0
Agrees word split mask row other =
    other.index ≡ row.index → HasElements word split mask other → (k : ℕ) → k < split.width → word other.cells.now k ≡ word row.cells.now k

-- the row has words of elements, and each of the rows agrees with it
abbrev pub IsSettled : {M : Type 0} → (List M → ℕ → ℕ) → Split → ℕ → List (Row M) → Row M → Type 0
IsSettled word split mask rows row = HasElements word split mask row × All (Agrees word split mask row) rows

-- one of the rows has the index, and is settled
abbrev pub IsSettledIndex : {M : Type 0} → (List M → ℕ → ℕ) → Split → ℕ → List (Row M) → ℕ → Type 0
IsSettledIndex word split mask rows i = Any (λ row. (row.index ≡ i) × IsSettled word split mask rows row) rows

-- `least` indices, or more, are settled
pub record HaveSettled {M : Type 0} (word : List M → ℕ → ℕ) (split : Split) (mask least : ℕ) (rows : List (Row M)) : Type 0 where
  pub indices : List ℕ
  pub rising : AreRising split.total indices
  pub settled : All (IsSettledIndex word split mask rows) indices
  pub enough : least ≤ length indices

-- of m settled indices all but some e, where 2 e + `min` is at most m, have rows of a
pub record IsNear {M : Type 0} (word : List M → ℕ → ℕ) (split : Split) (mask : ℕ) (rows : List (Row M)) (a : ℕ → ℕ → F) : Type 0 where
  pub wrong : List ℕ
  pub enough : HaveSettled word split mask (length wrong + length wrong + split.min) rows
  pub right : All (λ row. IsSettled word split mask rows row → ¬ (Contains wrong row.index) → IsRowOf split mask a row.index (word row.cells.now)) rows

-- no codeword is near the rows
abbrev pub HaveNoneNear : {M : Type 0} → (List M → ℕ → ℕ) → Split → ℕ → List (Row M) → Type 0
HaveNoneNear word split mask rows = (a : ℕ → ℕ → F) → IsCodewordOf split a → ¬ (IsNear word split mask rows a)

-- the error says that memory ran out, or that fewer than `min` indices are settled
abbrev pub IsSettledDue : {M : Type 0} → (List M → ℕ → ℕ) → Split → ℕ → List (Row M) → Error → Type 0
IsSettledDue word split mask rows e = IsMemory e ⊎ ((e ≡ TooFew) × ¬ (HaveSettled word split mask split.min rows))

-- by rising number, the positions of the items of which P does not hold
pub record ArePositionsWithout {X : Type 0} (P : X → Type 0) (xs : List X) (positions : List ℕ) : Type 0 where
  pub rising : IsStrictlyIncreasing positions
  pub below : All (λ i. i < length xs) positions
  pub differ : All (λ i. (x : X) → slice_index_or xs i x ≡ x → ¬ (P x)) positions
  pub agree : (i : ℕ) (x : X) → i < length xs → slice_index_or xs i x ≡ x → ¬ (Contains positions i) → P x

-- a is a codeword near the rows, and the positions are the positions of the rows that are not its rows
pub record AreCorrectedTo {M : Type 0} (word : List M → ℕ → ℕ) (split : Split) (mask : ℕ) (rows : List (Row M)) (positions : List ℕ) (a : ℕ → ℕ → F) : Type 0 where
  pub of_code : IsCodewordOf split a
  pub near : IsNear word split mask rows a
  pub left_out : ArePositionsWithout (λ row. IsRowOf split mask a row.index (word row.cells.now)) rows positions

-- there is one codeword at most near the rows
abbrev pub HaveOneCorrection : {M : Type 0} → (List M → ℕ → ℕ) → Type 0
HaveOneCorrection {M} word =
    (split : Split) (mask : ℕ) (rows : List (Row M)) (a b : ℕ → ℕ → F) → mask < 2 ^ 32 → IsCodewordOf split a → IsCodewordOf split b
    → IsNear word split mask rows a → IsNear word split mask rows b → AreSameRows split.total split.width a b

-- which refusal is due to rows of which some may be wrong: too few settled indices, or a length or an index that is refused of any rows
abbrev pub IsCorrectingDue : {M : Type 0} → ℕ → (List M → ℕ → ℕ) → Split → ℕ → List (Row M) → List ℕ → Error → Type 0
IsCorrectingDue bytes word split mask rows wanted (Memory e) = ⊤
IsCorrectingDue bytes word split mask rows wanted TooFew = (length rows ≡ 0) ⊎ (AreAsked bytes split rows wanted × ¬ (HaveSettled word split mask split.min rows))
IsCorrectingDue bytes word split mask rows wanted Mismatch = IsDue bytes word split mask rows wanted Mismatch
IsCorrectingDue bytes word split mask rows wanted Sizes = ⊥
IsCorrectingDue bytes word split mask rows wanted Index = IsDue bytes word split mask rows wanted Index
IsCorrectingDue bytes word split mask rows wanted Word = ⊥
IsCorrectingDue bytes word split mask rows wanted Conflict = ⊥
IsCorrectingDue bytes word split mask rows wanted Inconsistent = ⊥

-- the cell in column k of row i, where the cells are rows of this width
abbrev pub cells_at : ℕ → List F → ℕ → ℕ → F
cells_at width cells i k = item cells (i * width + k)

-- the row of its index among the cells has the elements of the words of the row
abbrev pub HasCells : {M : Type 0} → (List M → ℕ → ℕ) → Split → ℕ → List F → Row M → Type 0
HasCells word split mask cells row =
    (k : ℕ) → k < split.width → same (cells_at split.width cells row.index k) (element_in split.min mask row.index (word row.cells.now k))

-- of n points the points of the settled indices are marked
pub record AreMarked {M : Type 0} (word : List M → ℕ → ℕ) (split : Split) (mask : ℕ) (rows : List (Row M)) (n : ℕ) (points : List Bool) : Type 0 where
  pub size : length points ≡ n
  pub exactly : (i : ℕ) → (slice_index_or points i false ≡ true) ↔ IsSettledIndex word split mask rows i

-- the rows of settled indices, and no others, are filled, with the elements of their words
pub record AreSettledRows {M : Type 0} (word : List M → ℕ → ℕ) (split : Split) (mask : ℕ) (rows : List (Row M)) (e : EvaluationsOf F) : Type 0 where
  pub lg : ℕ
  pub next : IsNextPowerOfTwo split.total (2 ^ lg)
  pub size : IsOfSize e.matrix (2 ^ lg) split.width
  pub marked : AreMarked word split mask rows (2 ^ lg) e.filled
  pub cells : All (λ row. IsSettled word split mask rows row → HasCells word split mask e.matrix.cells row) rows

-- the cells are, row after row, the cells of a codeword near the rows, and may be more
pub record HoldsNear {M : Type 0} (word : List M → ℕ → ℕ) (split : Split) (mask : ℕ) (rows : List (Row M)) (cells : List F) : Type 0 where
  pub count : split.total * split.width ≤ length cells
  pub of_code : IsCodewordOf split (cells_at split.width cells)
  pub near : IsNear word split mask rows (cells_at split.width cells)
