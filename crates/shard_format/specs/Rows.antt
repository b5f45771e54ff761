-- The records of version 3: rows of a block as they are, and parity rows, each under the mask of its block.
use Rattle.std.specs.Prelude.{◌≡◌, ℕ, ◌-◌, ◌*◌, ◌<◌, ◌^◌, List, ◌∷◌, ◌++◌, length, map, cond, nat_lt}
use Rattle.std.specs.Int.{to_be_bytes, w64}
use Rattle.std.specs.List.{range_with_len}
use Rattle.math_numbers.specs.Goldilocks.{P}
use Rattle.math_fields.specs.declared.goldilocks.F.{F}
use Rattle.math_fields.specs.Elements.{residue, same}
use Rattle.shard_fingerprints.specs.declared.pairs.Fingerprints.{Fingerprints}
use Rattle.shard_fingerprints.specs.Fingerprints.{fingerprint}
use Rattle.systematic_shards.specs.Shards.{IsElementIn, element_in}
use Rattle.systematic_shards.specs.Words.{word_of_bytes}
use Rattle.shard_format.specs.declared.header.Header.{Header}
use Rattle.shard_format.specs.Headers.{fingerprints_spelling}
use Rattle.shard_format.specs.Records.{numbers_spelling}

-- the words of a row of a block, of which its fingerprints are: the block's number, the index, the number of words, the mask, and the elements
abbrev pub row_words : ℕ → ℕ → ℕ → List F → List F
row_words block index mask elements = residue block ∷ residue index ∷ residue (length elements) ∷ residue mask ∷ elements

-- the elements of the first `width` words of the row of this header: words of data under the mask, and words of parity as they are
abbrev pub row_elements : Header → ℕ → ℕ → List ℕ → List F
row_elements h mask width row = map (λ k. element_in h.min mask h.index (word_of_bytes row k)) (range_with_len 0 width)

-- the two fingerprints are the fingerprints of the words under the keys of the header
pub record HaveWords (h : Header) (words : List F) (stored : Fingerprints) : Type 0 where
  pub first : same stored.first (fingerprint words h.keys.first)
  pub second : same stored.second (fingerprint words h.keys.second)

-- words under the mask are below this number where they are elements of row i: below P - 1 in a data row, and below P in a parity row
abbrev pub bound_of_row : ℕ → ℕ → ℕ
bound_of_row least i = cond (nat_lt i least) (P - 1) P

-- the bytes are a row of `width` words for this header, each a word of an element, and the mask has 32 bits
pub record IsRowOfHeader (h : Header) (mask width : ℕ) (row : List ℕ) : Type 0 where
  pub size : length row ≡ 8 * width
  pub short : mask < 2 ^ 32
  pub elements : (k : ℕ) → k < width → IsElementIn h.min mask h.index (word_of_bytes row k)

-- what a record has before its fingerprints: its numbers, the mask as a word, and the row
abbrev pub row_spelling : Header → ℕ → ℕ → List ℕ → List ℕ
row_spelling h mask width row = numbers_spelling h width ++ (to_be_bytes w64 mask ++ row)

-- the bytes begin with the bytes of a record before its fingerprints
abbrev pub BeginsWith : Header → ℕ → ℕ → List ℕ → List ℕ → Type 0
BeginsWith h mask width row bytes = (rest : List ℕ) × (bytes ≡ row_spelling h mask width row ++ rest)

-- the bytes of the record of this block in the file with this header that has this row: what stands before the fingerprints, and the two
-- fingerprints of the words of the row
abbrev pub row_record_spelling : Header → ℕ → ℕ → ℕ → List ℕ → List ℕ
row_record_spelling h block mask width row =
    row_spelling h mask width row ++ fingerprints_spelling h.keys (row_words block h.index mask (row_elements h mask width row))

-- these are the bytes of the record of this block in the file with this header that has this row, whose words are those of elements
pub record IsRowRecordOf (h : Header) (block mask width : ℕ) (row bytes : List ℕ) : Type 0 where
  pub fits : IsRowOfHeader h mask width row
  pub spelled : bytes ≡ row_record_spelling h block mask width row

-- where block numbers and indices are below P and masks have 32 bits, rows with one list of words have the same block, index, mask and elements
abbrev pub RowsHaveTheirWords : Type 0
RowsHaveTheirWords = (block other index place mask another : ℕ) (elements others : List F) → block < P → other < P → index < P → place < P
    → mask < 2 ^ 32 → another < 2 ^ 32 → row_words block index mask elements ≡ row_words other place another others
    → (block ≡ other) × (index ≡ place) × (mask ≡ another) × (elements ≡ others)
