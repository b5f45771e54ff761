-- Rows that are made, some columns at a time: where they are written, and what they are compared with.
use Rattle.std.specs.Prelude.{ℕ, ◌+◌, ◌*◌, ◌<◌, List, slice_index_or}
use Rattle.math_fields.specs.declared.goldilocks.F.{F}
use Rattle.math_fields.specs.Elements.{same}
use Rattle.math_restoring.specs.Restored.{item}
use Rattle.systematic_shards.specs.declared.making.RowMaker.{RowMaker}
use Rattle.systematic_shards.specs.declared.making.Strip.{Strip}
use Rattle.systematic_shards.specs.declared.rows.Row.{Row}
use Rattle.systematic_shards.specs.Filled.{AreFilled, ArePlaces, AreRunsFilled, AreRunsWithin, AreWithinRoom, made_word, row_word}
use Rattle.systematic_shards.specs.Made.{IsCodewordThrough}
use Rattle.systematic_shards.specs.Shards.{element_in}

-- the word of the strip in its column c, in the row of target number j
abbrev pub strip_word : Strip → ℕ → ℕ → ℕ
strip_word s j c = made_word s.code.split s.code.mask s.targets.now s.cols s.elements.now j c

-- `size` bytes have room for the words of the strip, of each of the first n rows in its place
abbrev pub IsStripWithin : ℕ → Strip → List ℕ → ℕ → Type 0
IsStripWithin size s places n = AreRunsWithin size s.code.split.width s.from s.cols places (strip_word s) n

-- the words of the strip are written, of each of the first n rows in its place, and all others are as they were
abbrev pub IsStripFilled : Strip → List ℕ → ℕ → (ℕ → ℕ) → (ℕ → ℕ) → Type 0
IsStripFilled s places n old new = AreRunsFilled s.code.split.width s.from s.cols places (strip_word s) n old new

-- the first n rows have the elements of the strip
abbrev pub HaveElements : {M : Type 0} → (List M → ℕ → ℕ) → List (Row M) → Strip → ℕ → Type 0
HaveElements {M} word rows s n =
    (j c : ℕ) (d : Row M) → j < n → c < s.cols
    → same (element_in s.code.split.min s.code.mask (slice_index_or rows j d).index (word (slice_index_or rows j d).cells.now (s.from + c))) (item s.elements.now (j * s.cols + c))

-- a is a codeword to which the rows in hand belong
abbrev pub IsCodewordFor : {M : Type 0} → (List M → ℕ → ℕ) → RowMaker M → (ℕ → ℕ → F) → Type 0
IsCodewordFor word maker a = IsCodewordThrough word maker.code.split maker.code.mask maker.rows.now a

-- the word of a in column k of the row of target number j
abbrev pub target_word : {M : Type 0} → RowMaker M → (ℕ → ℕ → F) → ℕ → ℕ → ℕ
target_word maker a = row_word maker.code.split maker.code.mask a maker.interpolation.targets.items

-- each target has a place of its own among rows that end at word 2^61 or before
abbrev pub ArePlacesFor : {M : Type 0} → RowMaker M → List ℕ → Type 0
ArePlacesFor maker places = ArePlaces maker.code.split.width maker.interpolation.targets.items places

-- `size` bytes have room for the rows of the targets of a in their places
abbrev pub HasRoomFor : {M : Type 0} → ℕ → RowMaker M → List ℕ → (ℕ → ℕ → F) → Type 0
HasRoomFor size maker places a = AreWithinRoom size maker.code.split.width places (target_word maker a)

-- the rows in hand belong to a codeword, for whose rows of the targets, in their places, `size` bytes have room
abbrev pub HaveRoomFor : {M : Type 0} → (List M → ℕ → ℕ) → ℕ → RowMaker M → List ℕ → Type 0
HaveRoomFor word size maker places = (a : ℕ → ℕ → F) × IsCodewordFor word maker a × HasRoomFor size maker places a

-- the rows of the targets are written in their places, in the first n columns, and all words of other rows are as they were
abbrev pub AreTargetsFilled : {M : Type 0} → (List M → ℕ → ℕ) → RowMaker M → List ℕ → ℕ → (ℕ → ℕ) → (ℕ → ℕ) → Type 0
AreTargetsFilled word maker places n old new = (a : ℕ → ℕ → F) → IsCodewordFor word maker a → AreFilled maker.code.split.width places (target_word maker a) n old new
