-- Data as they lie before they are split, and bytes as the words of shards.
use Rattle.std.specs.Prelude.{ℕ, ◌*◌, ◌/◌, List, [], ◌∷◌, ◌++◌, length, map, drop, Option, None, Some}
use Rattle.std.specs.Int.{from_be_bytes, w64}
use Rattle.std.specs.Simd.{first_chunks}
use Rattle.math_splitting.specs.declared.shards.sources.Source.{Source}

-- a list of the word that stands apart, where there is one
abbrev pub apart : Option ℕ → List ℕ
apart None = []
apart (Some word) = word ∷ []

-- the words of data: the one that stands before the slice, the words of the slice, and the one that stands behind it
abbrev pub words_in : {W : Type 0} → (W → ℕ) → Source W → List ℕ
words_in word source = apart source.first ++ (map word source.words.now ++ apart source.last)

-- how many words of data stand before the words of the slice
abbrev pub front_count : {W : Type 0} → Source W → ℕ
front_count source = length (apart source.first)

-- the words that bytes spell, eight for each, the highest first
abbrev pub spelled_words : List ℕ → List ℕ
spelled_words bytes = map (from_be_bytes w64) (first_chunks 8 (length bytes / 8) bytes)

-- the bytes behind the last whole word, at most seven
abbrev pub bytes_behind : List ℕ → List ℕ
bytes_behind bytes = drop (8 * (length bytes / 8)) bytes
