-- Rows of systematic shards as bytes, one after the other in the caller's memory.
use Rattle.std.specs.Prelude.{◌≡◌, ℕ, ◌*◌, ◌<◌, ◌≤◌, ◌⊎◌, List, [], length, take, drop, slice_index, slice_index_or}
use Rattle.math_fields.specs.declared.goldilocks.F.{F}
use Rattle.systematic_shards.specs.declared.Error.{Error}
use Rattle.systematic_shards.specs.declared.Error.TheVariants.{Inconsistent}
use Rattle.systematic_shards.specs.declared.rows.Row.{Row}
use Rattle.systematic_shards.specs.declared.split.Code.{Code}
use Rattle.systematic_shards.specs.declared.split.Split.{Split}
use Rattle.systematic_shards.specs.Correcting.{AreCorrectedTo, HaveSettled, IsCorrectingDue, IsNear}
use Rattle.systematic_shards.specs.Errors.{IsMemory}
use Rattle.systematic_shards.specs.Masks.{IsLeastMask}
use Rattle.systematic_shards.specs.Refusals.{AreAsked, AreElements, HaveCodewordOf, HaveConflict, HaveEnough, IsDecodeDue, IsDue}
use Rattle.systematic_shards.specs.Shards.{AreDataOf, AreRowsAt, AreShards, BelongTo, IsCodewordOf}
pub use Rattle.systematic_shards.specs.Splits.{HaveRoom, bytes_in_row, width_of}
pub use Rattle.systematic_shards.specs.Words.{word_of_bytes}
use Rattle.c_calls.specs.declared.systematic.in_hand.RowsInHand.{RowsInHand}
use Rattle.c_calls.specs.Statuses.{conflict, inconsistent, out_of_range, status_of_rows, too_few, wrong_index}
use Rattle.c_calls.specs.WordEncodings.{StandInFront}

-- the split has this size, this `min` and `total`, and the width for these
pub record IsSplitOf (size least total : ℕ) (split : Split) : Type 0 where
  pub bytes : split.size ≡ size
  pub needed : split.min ≡ least
  pub all : split.total ≡ total
  pub words : split.width ≡ width_of size least

-- `size` bytes have a split, and n bytes are `count` of its rows
abbrev pub HaveRowsFor : ℕ → ℕ → ℕ → ℕ → ℕ → Type 0
HaveRowsFor size least total count n = HaveRoom least total (width_of size least) × (n ≡ count * (8 * width_of size least))

-- row t of n rows, of `row` bytes each, has index number t and the bytes of row t
pub record AreRowsIn (row : ℕ) (indices bytes : List ℕ) (n : ℕ) (rows : List (Row ℕ)) : Type 0 where
  pub count : length rows ≡ n
  pub index : (t : ℕ) (d : Row ℕ) → t < n → (slice_index_or rows t d).index ≡ slice_index indices t
  pub cells : (t : ℕ) (d : Row ℕ) → t < n → (slice_index_or rows t d).cells.now ≡ take row (drop (t * row) bytes)

-- what a call was given: the code of its numbers, and the rows, one after the other in the bytes
pub record GivenRows (size least total mask : ℕ) (indices bytes : List ℕ) : Type 0 where
  pub code : Code
  pub split : IsSplitOf size least total code.split
  pub masked : code.mask ≡ mask
  pub rows : List (Row ℕ)
  pub lie : AreRowsIn (8 * code.split.width) indices bytes (length indices) rows

-- this holds of the code and the rows that a call was given
abbrev pub HoldsOfGiven : ℕ → ℕ → ℕ → ℕ → List ℕ → List ℕ → (Code → List (Row ℕ) → Type 0) → Type 0
HoldsOfGiven size least total mask indices bytes P = (it : GivenRows size least total mask indices bytes) × P it.code it.rows

-- the rows in hand have these numbers, indices and bytes
pub record AreInHand (size least total mask : ℕ) (indices bytes : List ℕ) (held : RowsInHand) : Type 0 where
  pub split : IsSplitOf size least total held.code.split
  pub masked : held.code.mask ≡ mask
  pub indices_are : held.indices.now ≡ indices
  pub bytes_are : held.bytes.now ≡ bytes

-- these are the rows in hand
abbrev pub AreRowsOf : RowsInHand → List (Row ℕ) → Type 0
AreRowsOf held rows = AreRowsIn (8 * held.code.split.width) held.indices.now held.bytes.now (length held.indices.now) rows

-- the mask is the least of the block, and under it the block and the parity rows are a codeword
abbrev pub AreEncoded : Split → List ℕ → ℕ → List ℕ → Type 0
AreEncoded split block mask parity =
    IsLeastMask (split.min * split.width) (word_of_bytes block) mask × AreShards split mask (word_of_bytes block) (word_of_bytes parity)

-- the rows are sound, of elements and enough, and each index that is wanted is below `total`
pub record AreTaken (code : Code) (rows : List (Row ℕ)) (wanted : List ℕ) : Type 0 where
  pub asked : AreAsked 1 code.split rows wanted
  pub elements : AreElements word_of_bytes code.split code.mask rows
  pub enough : HaveEnough code.split.min rows

-- the rows are rows of a codeword, and the bytes are its rows of the wanted indices
pub record AreRebuilt (code : Code) (rows : List (Row ℕ)) (wanted bytes : List ℕ) : Type 0 where
  pub taken : AreTaken code rows wanted
  pub codeword : ℕ → ℕ → F
  pub of_split : IsCodewordOf code.split codeword
  pub belong : BelongTo word_of_bytes code.split code.mask rows codeword
  pub written : AreRowsAt code.split code.mask codeword wanted (word_of_bytes bytes)

-- the rows are rows of a codeword, and the block is its data
pub record AreDecoded (code : Code) (rows : List (Row ℕ)) (block : List ℕ) : Type 0 where
  pub taken : AreTaken code rows []
  pub codeword : ℕ → ℕ → F
  pub of_split : IsCodewordOf code.split codeword
  pub belong : BelongTo word_of_bytes code.split code.mask rows codeword
  pub written : AreDataOf code.split code.mask codeword (word_of_bytes block)

-- the bytes are the rows of the wanted indices of a codeword near the rows, and the positions are the positions of the rows that are not
-- its rows
pub record AreCorrected (code : Code) (rows : List (Row ℕ)) (wanted positions bytes : List ℕ) : Type 0 where
  pub asked : AreAsked 1 code.split rows wanted
  pub enough : HaveSettled word_of_bytes code.split code.mask code.split.min rows
  pub codeword : ℕ → ℕ → F
  pub corrected : AreCorrectedTo word_of_bytes code.split code.mask rows positions codeword
  pub written : AreRowsAt code.split code.mask codeword wanted (word_of_bytes bytes)

-- enough indices of the rows are settled, and no codeword is near the rows
pub record HaveNoneNear (code : Code) (rows : List (Row ℕ)) (wanted : List ℕ) : Type 0 where
  pub asked : AreAsked 1 code.split rows wanted
  pub enough : HaveSettled word_of_bytes code.split code.mask code.split.min rows
  pub none : (a : ℕ → ℕ → F) → IsCodewordOf code.split a → ¬ (IsNear word_of_bytes code.split code.mask rows a)

-- the number is 1 where the rows, which are sound and of elements, belong to one codeword, and 0 where they do not
pub record IsVerified (code : Code) (rows : List (Row ℕ)) (belong : ℕ) : Type 0 where
  pub asked : AreAsked 1 code.split rows []
  pub elements : AreElements word_of_bytes code.split code.mask rows
  pub bit : belong ≤ 1
  pub yes : belong ≡ 1 → HaveEnough code.split.min rows × HaveCodewordOf word_of_bytes code.split code.mask rows
  pub no : belong ≡ 0 → HaveConflict word_of_bytes code.split rows ⊎ (HaveEnough code.split.min rows × ¬ (HaveCodewordOf word_of_bytes code.split code.mask rows))

-- which refusal is due to rows of a code from which the rows of some indices are wanted
abbrev pub IsDueTo : Code → List ℕ → List (Row ℕ) → Error → Type 0
IsDueTo code wanted rows e = IsDue 1 word_of_bytes code.split code.mask rows wanted e

-- which refusal is due to rows of a code that are decoded
abbrev pub IsDecodeDueTo : Code → List (Row ℕ) → Error → Type 0
IsDecodeDueTo code rows e = IsDecodeDue 1 word_of_bytes code.split code.mask rows e

-- which refusal is due to rows of a code of which some may be wrong
abbrev pub IsCorrectingDueTo : Code → List ℕ → List (Row ℕ) → Error → Type 0
IsCorrectingDueTo code wanted rows e =
    IsCorrectingDue 1 word_of_bytes code.split code.mask rows wanted e ⊎ ((e ≡ Inconsistent) × HaveNoneNear code rows wanted)

-- the error says that memory ran out, or P holds of the rows in hand and it
abbrev pub IsMemoryOrDue : (List (Row ℕ) → Error → Type 0) → RowsInHand → Error → Type 0
IsMemoryOrDue P held e = IsMemory e ⊎ ((rows : List (Row ℕ)) × AreRowsOf held rows × P rows e)

-- the error says that memory ran out, or is due to the rows in hand, of which some may be wrong
abbrev pub IsMemoryOrCorrectingDue : List ℕ → RowsInHand → Error → Type 0
IsMemoryOrCorrectingDue wanted held e = IsMemoryOrDue (IsCorrectingDueTo held.code wanted) held e

-- the bytes are the wanted rows of a codeword near the rows in hand, and the positions of those that are not its rows, so many, stand in front
abbrev pub WritesRows : RowsInHand → List ℕ → List ℕ → List ℕ → List ℕ → ℕ → Type 0
WritesRows held wanted bytes old new many =
    (rows : List (Row ℕ)) × AreRowsOf held rows
    × ((positions : List ℕ) × AreCorrected held.code rows wanted positions bytes × (many ≡ length positions) × StandInFront positions old new)

-- the status tells of rows, and not of memory or of sizes
abbrev pub TellsOfRows : ℕ → Type 0
TellsOfRows status = (status ≡ out_of_range) ⊎ (status ≡ too_few) ⊎ (status ≡ wrong_index) ⊎ (status ≡ conflict) ⊎ (status ≡ inconsistent)

-- the status reports an error of which P holds
abbrev pub IsStatusWhere : (Error → Type 0) → ℕ → Type 0
IsStatusWhere P status = (e : Error) × (status ≡ status_of_rows e) × P e

-- a status that tells of rows reports a refusal that is due to the rows that a call was given
abbrev pub IsStatusDue : ℕ → ℕ → ℕ → ℕ → List ℕ → List ℕ → (Code → List (Row ℕ) → Error → Type 0) → ℕ → Type 0
IsStatusDue size least total mask indices bytes due status =
    TellsOfRows status → HoldsOfGiven size least total mask indices bytes (λ code rows. IsStatusWhere (due code rows) status)
