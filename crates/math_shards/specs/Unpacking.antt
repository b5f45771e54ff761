-- Elements that are unpacked to words, of which the first ones are packed again.
use Rattle.std.specs.Prelude.{◌≡◌, ℕ, ◌+◌, ◌-◌, ◌*◌, ◌/◌, ◌%◌, ◌^◌, ◌<◌, bit_or, List, length, slice_index, slice_index_or, take}
use Rattle.math_fields.specs.declared.goldilocks.F.{F}
use Rattle.math_fields.specs.Elements.{number, residue, same}
use Rattle.math_fields.specs.Packing.{elements_of, words_of}

-- the first `count` + 1 of the words that the elements unpack to
abbrev pub first_words : ℕ → List F → List ℕ
first_words count elements = take (count + 1) (words_of elements)

-- the element in this place, of the elements that the first `count` + 1 words pack to, and zero past the last one
abbrev pub repacked_at : List F → ℕ → ℕ → F
repacked_at elements count place = slice_index_or (elements_of (first_words count elements)) place (residue 0)

-- the first n elements are those that the first `count` + 1 words pack to
abbrev pub AreRepacked : List F → ℕ → ℕ → Type 0
AreRepacked elements count n = (k : ℕ) → k < n → same (slice_index_or elements k (residue 0)) (repacked_at elements count k)

-- the word whose first bits are the bits of an element behind the `taken` lowest, and whose others are the lowest of the next element
abbrev pub word_between : F → F → ℕ → ℕ
word_between first next taken = bit_or (number first % 2 ^ 63 / 2 ^ taken) (number next % 2 ^ 63 * 2 ^ (63 - taken) % 2 ^ 64)

-- the words are cut from elements that lie one after the other: word k has the bits of an element behind the `taken` + k lowest, and then
-- the lowest of the next element
abbrev pub AreBetween : List F → ℕ → List ℕ → Type 0
AreBetween elements taken words = (k : ℕ) → k < length words → slice_index words k ≡ word_between (slice_index_or elements k (residue 0)) (slice_index_or elements (k + 1) (residue 0)) (taken + k)

-- the words are those that the elements unpack to, from place `first` on
abbrev pub AreUnpacked : List F → ℕ → List ℕ → Type 0
AreUnpacked elements first words = (k : ℕ) → k < length words → slice_index words k ≡ slice_index (words_of elements) (first + k)
