-- The blocks of a file, and the records of a shard file: sizes and places.
use Rattle.std.specs.Prelude.{◌≡◌, ◌≢◌, ℕ, zero, suc, ◌+◌, ◌-◌, ◌*◌, ◌/◌, ◌<◌, ◌≤◌, ◌^◌, ◌&&◌, if◌then◌else◌, nat_lt, List, [], ◌∷◌, ◌++◌, length, min}
use Rattle.std.specs.Int.{to_be_bytes, w64}
use Rattle.std.specs.List.{flat_map}
use Rattle.math_codec.specs.Lengths.{length_spelling}
use Rattle.math_fields.specs.declared.goldilocks.F.{F}
use Rattle.shard_fingerprints.specs.declared.pairs.Fingerprints.{Fingerprints}
use Rattle.shard_fingerprints.specs.Fingerprints.{cell_words, fingerprint}
use Rattle.math_fields.specs.Elements.{number, same}
use Rattle.hash_trees.specs.Steps.{path_steps}
use Rattle.shard_format.specs.Formats.{has_paths, header_size, mask_size}
use Rattle.shard_format.specs.Headers.{header_spelling}
use Rattle.shard_format.specs.declared.formats.Format.TheVariants.{RowsWithPaths}
use Rattle.shard_format.specs.declared.header.Header.{Header}

-- how many blocks the file has: its length by the block size, rounded up
abbrev pub block_count : Header → ℕ
block_count h = (h.length + h.block - 1) / h.block

-- how many bytes the block with this number has: the block size, and at most what is left of the file after the blocks before
abbrev pub block_size : Header → ℕ → ℕ
block_size h number = min h.block (h.length - number * h.block)

-- how many bytes the record of a block has, whose shard has `words` words, which are cells in version 2: the index, `min`, `total` and the
-- number of words, each as a length, the mask, eight bytes a word, and two words
abbrev pub record_size : Header → ℕ → ℕ
record_size h words =
    length (length_spelling h.index) + length (length_spelling h.min) + length (length_spelling h.total) + length (length_spelling words)
    + mask_size h.format + 8 * words + 16

-- how many bytes the path behind a record has: 32 for each digest of the path where records have paths and the index is below `total`, and
-- else none
abbrev pub path_size : Header → ℕ
path_size h = if has_paths h.format && nat_lt h.index h.total then 32 * path_steps h.total h.index else 0

-- where the record of the block with this number begins: after the header and as many records of whole blocks, whose shards have `words`
-- words, each with its path behind it
abbrev pub record_place : Header → ℕ → ℕ → ℕ
record_place h words number = header_size h.format + number * (record_size h words + path_size h)

-- where the records of `number` blocks end, with their paths, where the shard of the last has `last` words, and the shard of each other one
-- `words`
abbrev pub records_end : Header → ℕ → ℕ → ℕ → ℕ
records_end h words last zero = header_size h.format
records_end h words last (suc number) = record_place h words number + record_size h last + path_size h

-- how many bytes a pair of digests has that stands behind the records: 64 where records have paths, and else none
abbrev pub pair_size : Header → ℕ
pair_size h = if has_paths h.format then 64 else 0

-- how many bytes all pairs have: there is one pair less than blocks
abbrev pub pairs_size : Header → ℕ
pairs_size h = (block_count h - 1) * pair_size h

-- how many bytes the shard file has: it ends with the pairs, which begin where the records and paths of all blocks end
abbrev pub file_size : Header → ℕ → ℕ → ℕ
file_size h words last = records_end h words last (block_count h) + pairs_size h

-- a number, and the greatest number of a word in place of each that is greater
abbrev pub capped : ℕ → ℕ
capped n = min n (2 ^ 64 - 1)

-- the index, `min` and `total` of a shard are the numbers of the header, and it has as many cells as are wanted
pub record IsShardOfHeader (h : Header) (i m n size wanted : ℕ) : Type 0 where
  pub index : i ≡ h.index
  pub least : m ≡ h.min
  pub most : n ≡ h.total
  pub cells : size ≡ wanted

-- the fingerprints are the fingerprints of the cells of the shard of this block, under the keys of the header
pub record HaveFingerprints (h : Header) (block : ℕ) (cells : List F) (stored : Fingerprints) : Type 0 where
  pub first : same stored.first (fingerprint (cell_words block h.index cells) h.keys.first)
  pub second : same stored.second (fingerprint (cell_words block h.index cells) h.keys.second)

-- an element is spelled by its number as a word
abbrev pub element_spelling : F → List ℕ
element_spelling a = to_be_bytes w64 (number a)

-- the bytes of elements, a word each
abbrev pub elements_spelling : List F → List ℕ
elements_spelling elements = flat_map element_spelling elements

-- what a record begins with: the index, `min`, `total` and the number of cells, each as a length
abbrev pub numbers_spelling : Header → ℕ → List ℕ
numbers_spelling h cells = length_spelling h.index ++ (length_spelling h.min ++ (length_spelling h.total ++ length_spelling cells))

-- the elements are `count` cells, whatever they are, and then their two fingerprints, as for the shard of this block in the file with this
-- header
pub record AreCellsThatFit (h : Header) (block count : ℕ) (elements : List F) : Type 0 where
  pub cells : List F
  pub stored : Fingerprints
  pub counted : length cells ≡ count
  pub fits : HaveFingerprints h block cells stored
  pub listed : elements ≡ cells ++ (stored.first ∷ stored.second ∷ [])

-- these are the bytes of a record of this block in the file with this header: its numbers, and then the cells and the two fingerprints that fit them
pub record IsRecordOf (h : Header) (block count : ℕ) (bytes : List ℕ) : Type 0 where
  pub elements : List F
  pub fits : AreCellsThatFit h block count elements
  pub spelled : bytes ≡ numbers_spelling h count ++ elements_spelling elements

-- the bytes of the record of this block in the file with this header that has these cells: its numbers, and then the cells and their two fingerprints
abbrev pub record_spelling : Header → ℕ → List F → List ℕ
record_spelling h block cells =
    let words = cell_words block h.index cells in
    numbers_spelling h (length cells) ++ elements_spelling (cells ++ (fingerprint words h.keys.first ∷ fingerprint words h.keys.second ∷ []))

-- the first record begins behind the header, and each further one where the path of the one before it ends, which follows that
pub record RecordsFollow (h : Header) (words : ℕ) : Type 0 where
  pub first : record_place h words 0 ≡ length (header_spelling h)
  pub next : (number : ℕ) → record_place h words (number + 1) ≡ record_place h words number + record_size h words + path_size h

-- each block but the last has the block size, the last has what is left, which is at least one byte, and there is none beyond
pub record BlocksMakeFile (h : Header) : Type 0 where
  pub whole : (number : ℕ) → number + 1 < block_count h → block_size h number ≡ h.block
  pub last : (number : ℕ) → number + 1 ≡ block_count h → number * h.block + block_size h number ≡ h.length
  pub some : (number : ℕ) → number < block_count h → 1 ≤ block_size h number
  pub none : (number : ℕ) → block_count h ≤ number → block_size h number ≡ 0

-- the records and paths end where the path of the last block does; the pairs begin there, one for each block before the last, and the shard
-- file ends with them; it ends with the record of the last block where there are no paths, and with the header where there is no block; each
-- record and its path end where the pairs begin or before, and its place and size fit a word where the size of the file does
pub record RecordsEndWithFile (h : Header) (words last : ℕ) : Type 0 where
  pub end : (number : ℕ) → number + 1 ≡ block_count h → records_end h words last (block_count h) ≡ record_place h words number + record_size h last + path_size h
  pub pairs : (number : ℕ) → number + 1 ≡ block_count h → file_size h words last ≡ records_end h words last (block_count h) + number * pair_size h
  pub without : h.format ≢ RowsWithPaths → (number : ℕ) → number + 1 ≡ block_count h → file_size h words last ≡ record_place h words number + record_size h last
  pub empty : block_count h ≡ 0 → file_size h words last ≡ length (header_spelling h)
  pub within : (number : ℕ) → number + 1 < block_count h → record_place h words number + record_size h words + path_size h ≤ records_end h words last (block_count h)

-- where no record, with its path and a pair, has more than `times` times the bytes of a block, and so many blocks have fewer than 2^62 and so
-- many files fewer than 2^63, the size of the shard file fits a word
abbrev pub FileFits : Header → ℕ → ℕ → Type 0
FileFits h words last =
    (times : ℕ) → record_size h words + path_size h + pair_size h ≤ times * h.block → record_size h last + path_size h ≤ times * h.block
    → times * h.block < 2 ^ 62 → times * h.length < 2 ^ 63 → file_size h words last < 2 ^ 64
