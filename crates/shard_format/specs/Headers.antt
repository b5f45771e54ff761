-- The header of a shard file as bytes: eleven words in version 2 and twelve in version 3, of which the last two are the fingerprints of those before.
use Rattle.std.specs.Prelude.{◌≢◌, ℕ, zero, suc, ◌<◌, ◌^◌, List, [], ◌∷◌, ◌++◌, map, flat_map, drop, slice_index_or, Result, Ok, Err, nat_lt, ◌==◌, ◌&&◌, ◌||◌, if◌then◌else◌, codes}
use Rattle.std.specs.Int.{to_be_bytes, w64}
use Rattle.math_numbers.specs.Goldilocks.{P}
use Rattle.math_codec.specs.Faults.{Fault, Invalid, ◌>>=◌}
use Rattle.math_codec.specs.Words.{scan_word, word_in_front}
use Rattle.math_fields.specs.declared.goldilocks.F.{F}
use Rattle.math_fields.specs.Elements.{number, residue}
use Rattle.shard_fingerprints.specs.Fingerprints.{fingerprint}
use Rattle.shard_fingerprints.specs.declared.pairs.Keys.{Keys}
use Rattle.shard_format.specs.declared.header.Header.{Header}
use Rattle.shard_format.specs.declared.formats.Format.{Format}
use Rattle.shard_format.specs.Formats.{paths_words, version_of, word_count}

-- the word that every shard file begins with
abbrev pub mark : ℕ
mark = 0x8953484152440d0a

-- the words of a header before its fingerprints, as elements: the mark, the version, the index, `min`, `total`, the block size, the length, the two keys, and in version 3 whether records have paths
abbrev pub header_words : Header → List F
header_words h =
    residue mark ∷ residue (version_of h.format) ∷ residue h.index ∷ residue h.min ∷ residue h.total ∷ residue h.block ∷ residue h.length
    ∷ h.keys.first ∷ h.keys.second ∷ map residue (paths_words h.format)

-- the beginning of a header is spelled by the mark, the version and the index, a word each
abbrev pub beginning_spelling : ℕ → ℕ → List ℕ
beginning_spelling version index = to_be_bytes w64 mark ++ (to_be_bytes w64 version ++ to_be_bytes w64 index)

-- the numbers of a split are spelled by `min`, `total`, the block size and the length, a word each
abbrev pub split_spelling : (least most block size : ℕ) → List ℕ
split_spelling least most block size = to_be_bytes w64 least ++ (to_be_bytes w64 most ++ (to_be_bytes w64 block ++ to_be_bytes w64 size))

-- two keys are spelled by a word each
abbrev pub keys_spelling : Keys → List ℕ
keys_spelling keys = to_be_bytes w64 (number keys.first) ++ to_be_bytes w64 (number keys.second)

-- neither key is zero
abbrev pub AreNotZero : Keys → Type 0
AreNotZero keys = (number keys.first ≢ 0) × (number keys.second ≢ 0)

-- the fingerprints of some words under two keys are spelled by a word each
abbrev pub fingerprints_spelling : Keys → List F → List ℕ
fingerprints_spelling keys words = to_be_bytes w64 (number (fingerprint words keys.first)) ++ to_be_bytes w64 (number (fingerprint words keys.second))

-- what a header says of paths is spelled by a word each
abbrev pub paths_spelling : Format → List ℕ
paths_spelling f = flat_map (to_be_bytes w64) (paths_words f)

-- the words of a header before its fingerprints are spelled: its beginning, the numbers of the split, its keys, and what it says of paths
abbrev pub words_spelling : Header → List ℕ
words_spelling h = beginning_spelling (version_of h.format) h.index ++ (split_spelling h.min h.total h.block h.length ++ (keys_spelling h.keys ++ paths_spelling h.format))

-- a header is spelled by its words before the fingerprints, and by their fingerprints
abbrev pub header_spelling : Header → List ℕ
header_spelling h = words_spelling h ++ fingerprints_spelling h.keys (header_words h)

-- the numbers fit their types, the length is below P, and neither key is zero
pub record AdmitsHeader (h : Header) : Type 0 where
  pub index_fits : h.index < 2 ^ 32
  pub min_fits : h.min < 2 ^ 32
  pub total_fits : h.total < 2 ^ 32
  pub block_fits : h.block < 2 ^ 32
  pub length_fits : h.length < P
  pub first_key : number h.keys.first ≢ 0
  pub second_key : number h.keys.second ≢ 0

-- what a read of one given word leaves, or the fault; it names the word
unfoldable pub scan_fixed : ℕ → List ℕ → List ℕ → Result (List ℕ) Fault
scan_fixed expected name bytes = do
  rest ← scan_word bytes
  if word_in_front bytes == expected then Ok rest else Err (Invalid (codes "header") name)

-- what a read of a word below 2^32 leaves, or the fault
unfoldable pub scan_number : List ℕ → Result (List ℕ) Fault
scan_number bytes = do
  rest ← scan_word bytes
  if nat_lt (word_in_front bytes) (2 ^ 32) then Ok rest else Err (Invalid (codes "header") (codes "number"))

-- what a read of a word below P leaves, or the fault
unfoldable pub scan_length : List ℕ → Result (List ℕ) Fault
scan_length bytes = do
  rest ← scan_word bytes
  if nat_lt (word_in_front bytes) P then Ok rest else Err (Invalid (codes "header") (codes "length"))

-- what a read of a word below P that is not zero leaves, or the fault
unfoldable pub scan_key : List ℕ → Result (List ℕ) Fault
scan_key bytes = do
  rest ← scan_word bytes
  if nat_lt 0 (word_in_front bytes) && nat_lt (word_in_front bytes) P then Ok rest else Err (Invalid (codes "header") (codes "key"))

-- what a read of a version leaves, or the fault: there are versions 2 and 3
unfoldable pub scan_version : List ℕ → Result (List ℕ) Fault
scan_version bytes = do
  rest ← scan_word bytes
  if (word_in_front bytes == 2) || (word_in_front bytes == 3) then Ok rest else Err (Invalid (codes "header") (codes "version"))

-- what a read of the mark, the version and the index leaves, or the first fault
unfoldable pub scan_beginning : List ℕ → Result (List ℕ) Fault
scan_beginning bytes = do
  after_mark ← scan_fixed mark (codes "mark") bytes
  after_version ← scan_version after_mark
  scan_number after_version

-- what a read of the numbers of a split leaves, or the first fault
unfoldable pub scan_split : List ℕ → Result (List ℕ) Fault
scan_split bytes = do
  after_min ← scan_number bytes
  after_total ← scan_number after_min
  after_block ← scan_number after_total
  scan_length after_block

-- what a read of two keys leaves, or the first fault
unfoldable pub scan_keys : List ℕ → Result (List ℕ) Fault
scan_keys bytes = do
  after_first ← scan_key bytes
  scan_key after_first

-- what a read of a word that is 0 or 1 leaves, or the fault
unfoldable pub scan_flag : List ℕ → Result (List ℕ) Fault
scan_flag bytes = do
  rest ← scan_word bytes
  if nat_lt (word_in_front bytes) 2 then Ok rest else Err (Invalid (codes "header") (codes "paths"))

-- what a read of what a header of this version says of paths leaves, or the fault: version 2 says nothing of them
abbrev pub scan_paths : ℕ → List ℕ → Result (List ℕ) Fault
scan_paths version bytes = if version == 2 then Ok bytes else scan_flag bytes

-- what a read of the fingerprints of some words under two keys leaves, or the first fault
unfoldable pub scan_fingerprints : List F → F → F → List ℕ → Result (List ℕ) Fault
scan_fingerprints words first second bytes = do
  after_first ← scan_fixed (number (fingerprint words first)) (codes "fingerprint") bytes
  scan_fixed (number (fingerprint words second)) (codes "fingerprint") after_first

-- the first n words of some bytes
unfoldable pub words_in_front : ℕ → List ℕ → List ℕ
words_in_front zero bytes = []
words_in_front (suc n) bytes = word_in_front bytes ∷ words_in_front n (drop 8 bytes)

-- the version in a header, its second word
abbrev pub version_in : List ℕ → ℕ
version_in bytes = word_in_front (drop 8 bytes)

-- what a read of a header up to its fingerprints leaves, or the first fault
unfoldable pub scan_words : List ℕ → Result (List ℕ) Fault
scan_words bytes = do
  after_index ← scan_beginning bytes
  after_length ← scan_split after_index
  after_keys ← scan_keys after_length
  scan_paths (version_in bytes) after_keys

-- what a read of the fingerprints of a header leaves, or the first fault: they are the fingerprints of its words before, under the keys,
-- which are words 7 and 8 of these
abbrev pub scan_fingerprints_of : List ℕ → List ℕ → Result (List ℕ) Fault
scan_fingerprints_of words bytes = scan_fingerprints (map residue words) (residue (slice_index_or words 7 0)) (residue (slice_index_or words 8 0)) bytes

-- what a read of a header leaves, or the first fault
unfoldable pub scan_header : List ℕ → Result (List ℕ) Fault
scan_header bytes = do
  after_words ← scan_words bytes
  scan_fingerprints_of (words_in_front (word_count (version_in bytes)) bytes) after_words
