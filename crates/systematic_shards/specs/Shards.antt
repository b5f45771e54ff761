-- Rows of words as rows of a codeword: data rows under the mask, parity rows as they are.
use Rattle.std.specs.Prelude.{◌≡◌, ℕ, ◌+◌, ◌-◌, ◌*◌, ◌<◌, ◌≤◌, ◌^◌, List, length, map, slice_index, slice_index_or, All, cond, nat_lt}
use Rattle.std.specs.List.{range_with_len}
use Rattle.math_numbers.specs.Goldilocks.{P}
use Rattle.math_fields.specs.declared.goldilocks.F.{F}
use Rattle.math_fields.specs.Elements.{number, residue}
use Rattle.systematic_shards.specs.declared.rows.Row.{Row}
use Rattle.systematic_shards.specs.declared.split.Split.{Split}
use Rattle.systematic_shards.specs.Codewords.{AreIndices, IsCodeword}
use Rattle.systematic_shards.specs.Masks.{IsFreeOf, masked_number}
use Rattle.systematic_shards.specs.Words.{IsWithin}

-- the mask of row i: the mask of the data in a data row, and 0, which changes nothing, in a parity row
abbrev pub mask_of_row : ℕ → ℕ → ℕ → ℕ
mask_of_row least mask i = cond (nat_lt i least) mask 0

-- the element of a word in row i
abbrev pub element_in : ℕ → ℕ → ℕ → ℕ → F
element_in least mask i word = residue (masked_number (mask_of_row least mask i) word)

-- the word of an element in row i
abbrev pub word_in : ℕ → ℕ → ℕ → F → ℕ
word_in least mask i x = masked_number (mask_of_row least mask i) (number x)

-- the number is a word, and one of an element in row i: in a data row its high half is not all ones under the mask, and in a parity row it is below P
abbrev pub IsElementIn : ℕ → ℕ → ℕ → ℕ → Type 0
IsElementIn least mask i word = (word < 2 ^ 64) × (i < least → IsFreeOf mask word) × (least ≤ i → word < P)

-- the rows of a are a codeword, as many and as wide as the split says
abbrev pub IsCodewordOf : Split → (ℕ → ℕ → F) → Type 0
IsCodewordOf split a = IsCodeword split.min split.total split.width a

-- the words are row i of a, as words
abbrev pub IsRowOf : Split → ℕ → (ℕ → ℕ → F) → ℕ → (ℕ → ℕ) → Type 0
IsRowOf split mask a i word = (k : ℕ) → k < split.width → word k ≡ word_in split.min mask i (a i k)

-- the words are the rows of these indices of a, row after row, as words
abbrev pub AreRowsAt : Split → ℕ → (ℕ → ℕ → F) → List ℕ → (ℕ → ℕ) → Type 0
AreRowsAt split mask a indices word = (t : ℕ) → t < length indices → IsRowOf split mask a (slice_index indices t) (λ k. word (t * split.width + k))

-- the words of the block are the data rows of a
abbrev pub AreDataOf : Split → ℕ → (ℕ → ℕ → F) → (ℕ → ℕ) → Type 0
AreDataOf split mask a word = AreRowsAt split mask a (range_with_len 0 split.min) word

-- the words of the block, and after them the words of the parity rows, are the rows of a codeword
abbrev pub AreShards : Split → ℕ → (ℕ → ℕ) → (ℕ → ℕ) → Type 0
AreShards split mask block parity =
    (a : ℕ → ℕ → F) × IsCodewordOf split a × AreDataOf split mask a block × AreRowsAt split mask a (range_with_len split.min (split.total - split.min)) parity

-- the words of these rows of a, row after row, are zeros past the first `size` bytes
abbrev pub AreWithinAt : ℕ → Split → ℕ → (ℕ → ℕ → F) → List ℕ → Type 0
AreWithinAt size split mask a indices =
    (t k : ℕ) → t < length indices → k < split.width → IsWithin size (t * split.width + k) (word_in split.min mask (slice_index indices t) (a (slice_index indices t) k))

-- each row in hand has the words of the row of its index of a; the first argument is what the words of a row are
abbrev pub BelongTo : {M : Type 0} → (List M → ℕ → ℕ) → Split → ℕ → List (Row M) → (ℕ → ℕ → F) → Type 0
BelongTo word split mask rows a = All (λ row. IsRowOf split mask a row.index (word row.cells.now)) rows

-- the words are the rows of the wanted indices of a codeword to which the rows in hand belong
abbrev pub AreRebuilt : {M : Type 0} → (List M → ℕ → ℕ) → Split → ℕ → List (Row M) → List ℕ → (ℕ → ℕ) → Type 0
AreRebuilt word split mask rows wanted out = (a : ℕ → ℕ → F) × IsCodewordOf split a × BelongTo word split mask rows a × AreRowsAt split mask a wanted out

-- the words of the block are the data rows of a codeword to which the rows in hand belong
abbrev pub AreDecoded : {M : Type 0} → (List M → ℕ → ℕ) → Split → ℕ → List (Row M) → (ℕ → ℕ) → Type 0
AreDecoded word split mask rows block = (a : ℕ → ℕ → F) × IsCodewordOf split a × BelongTo word split mask rows a × AreDataOf split mask a block

-- the elements in column k of the rows in hand
abbrev pub column_of_rows : {M : Type 0} → (List M → ℕ → ℕ) → ℕ → ℕ → List (Row M) → ℕ → List F
column_of_rows word least mask rows k = map (λ row. element_in least mask row.index (word row.cells.now k)) rows

-- row i of the first n rows has index i and the words from word i `width` of the block on; the first argument is what the words of a row
-- are
pub record AreBlockRows {M : Type 0} (word : List M → ℕ → ℕ) (width : ℕ) (block : List M) (n : ℕ) (rows : List (Row M)) : Type 0 where
  pub count : length rows ≡ n
  pub index : (i : ℕ) (d : Row M) → i < n → (slice_index_or rows i d).index ≡ i
  pub words : (i k : ℕ) (d : Row M) → i < n → k < width → word (slice_index_or rows i d).cells.now k ≡ word block (i * width + k)

-- the block and one list of parity rows are shards, not two
abbrev pub HaveOneEncoding : Type 0
HaveOneEncoding =
    (split : Split) (mask : ℕ) (block one other : ℕ → ℕ) → mask < 2 ^ 32 → AreShards split mask block one → AreShards split mask block other
    → (j k : ℕ) → j < split.total - split.min → k < split.width → one (j * split.width + k) ≡ other (j * split.width + k)

-- rows of `min` distinct indices or more are rows of one codeword at most: whichever rows are lost, the rebuilt ones are the same
abbrev pub HaveOneCodewordOf : Type 0
HaveOneCodewordOf =
    (split : Split) (mask : ℕ) (indices : List ℕ) (row : ℕ → ℕ → ℕ) (a b : ℕ → ℕ → F) → mask < 2 ^ 32 → AreIndices split.total indices → split.min ≤ length indices
    → IsCodewordOf split a → IsCodewordOf split b
    → ((t : ℕ) → t < length indices → IsRowOf split mask a (slice_index indices t) (row t))
    → ((t : ℕ) → t < length indices → IsRowOf split mask b (slice_index indices t) (row t))
    → (i k : ℕ) → i < split.total → k < split.width → word_in split.min mask i (a i k) ≡ word_in split.min mask i (b i k)

-- rows of elements, of no more than `min` distinct indices, are rows of a codeword
abbrev pub HaveCodewordThrough : Type 0
HaveCodewordThrough =
    (split : Split) (mask : ℕ) (indices : List ℕ) (row : ℕ → ℕ → ℕ) → mask < 2 ^ 32 → AreIndices split.total indices → length indices ≤ split.min
    → ((t k : ℕ) → t < length indices → k < split.width → IsElementIn split.min mask (slice_index indices t) (row t k))
    → (a : ℕ → ℕ → F) × IsCodewordOf split a × ((t : ℕ) → t < length indices → IsRowOf split mask a (slice_index indices t) (row t))
