-- Words packed into elements of the Goldilocks field by 63 bits each, and elements unpacked to words.
use Rattle.std.specs.Prelude.{ℕ, ◌+◌, ◌*◌, ◌<◌, ◌≤◌, List, ◌++◌, Option, map}
use Rattle.std.specs.Iterator.{Count, count_map}
use Rattle.std.specs.declared.iter.Fuse.{Fuse}
use Rattle.math_numbers.specs.Bits.{bits, joined, cut}
use Rattle.math_fields.specs.Elements.{number, residue}
use Rattle.math_fields.specs.Repacking.{running, Refills, Repacks}
use Rattle.math_fields.specs.declared.goldilocks.F.{F}
use Rattle.math_fields.specs.declared.goldilocks.packing.WaitingBits.{WaitingBits}
use Rattle.math_fields.specs.declared.goldilocks.packing.WordsToElements.{WordsToElements}
use Rattle.math_fields.specs.declared.goldilocks.packing.ElementsToWords.{ElementsToWords}

-- the bits of words: 64 of each
abbrev pub word_bits : List ℕ → List ℕ
word_bits words = joined 64 words

-- the bits of elements: the 63 lowest of each
abbrev pub element_bits : List F → List ℕ
element_bits elements = joined 63 (map number elements)

-- the elements whose numbers the pieces of 63 bits write, the last piece filled with zeros
abbrev pub elements_of_bits : List ℕ → List F
elements_of_bits bs = map residue (cut 63 bs)

-- the words that the pieces of 64 bits write, the last piece filled with zeros
abbrev pub words_of_bits : List ℕ → List ℕ
words_of_bits bs = cut 64 bs

-- the elements that words pack to
abbrev pub elements_of : List ℕ → List F
elements_of words = elements_of_bits (word_bits words)

-- the words that elements unpack to
abbrev pub words_of : List F → List ℕ
words_of elements = words_of_bits (element_bits elements)

-- the bits that wait, the lowest first
abbrev pub waiting_bits : WaitingBits → List ℕ
waiting_bits w = bits w.count w.value

-- from `count` bits that wait and `more` after them `width` can be cut: all that wait and some more, at most 64; fewer than 64 are left
abbrev pub CanCut : ℕ → ℕ → ℕ → Type 0
CanCut count more width =
    (count < width) × (width ≤ 64) × (width < count + 64) × (width ≤ count + more) × (count + more < width + 64)

-- the parts and the steps of a `WordsToElements`
module _ {S : Type 0} where
  -- the source of a `WordsToElements`
  abbrev pub words_to_elements_source : WordsToElements S → Fuse S
  words_to_elements_source s = s.source

  -- what a `WordsToElements` gives, where its source goes on to give words: the elements of the bits that wait, and of the words' bits
  -- after them
  abbrev pub words_to_elements_gives : WordsToElements S → List ℕ → List F
  words_to_elements_gives s words = elements_of_bits (waiting_bits s.waiting ++ word_bits words)

  -- one call of `next` of a `WordsToElements`
  abbrev pub words_to_elements_steps : (S → Option ℕ → S → Type 0) → WordsToElements S → Option F → WordsToElements S → Type 0
  words_to_elements_steps steps s answer t = Repacks steps (words_to_elements_gives s) (running s.source) answer (words_to_elements_gives t) (running t.source)

  -- how many bits a `WordsToElements` has left at most, where `left` says how many words its source has left at most
  abbrev pub words_to_elements_bits : (Fuse S → Count) → WordsToElements S → Count
  words_to_elements_bits left s = count_map (λ n. s.waiting.count + 64 * n) (left s.source)

-- the same of an `ElementsToWords`
module _ {S : Type 0} where
  -- the source of an `ElementsToWords`
  abbrev pub elements_to_words_source : ElementsToWords S → Fuse S
  elements_to_words_source s = s.source

  -- what an `ElementsToWords` gives, where its source goes on to give elements: the words of the bits that wait, and of the elements' bits
  -- after them
  abbrev pub elements_to_words_gives : ElementsToWords S → List F → List ℕ
  elements_to_words_gives s elements = words_of_bits (waiting_bits s.waiting ++ element_bits elements)

  -- one call of `next` of an `ElementsToWords`
  abbrev pub elements_to_words_steps : (S → Option F → S → Type 0) → ElementsToWords S → Option ℕ → ElementsToWords S → Type 0
  elements_to_words_steps steps s answer t = Repacks steps (elements_to_words_gives s) (running s.source) answer (elements_to_words_gives t) (running t.source)

  -- one call of `refill` of an `ElementsToWords`
  abbrev pub RefillsWithElements : (S → Option F → S → Type 0) → ElementsToWords S → ElementsToWords S → Type 0
  RefillsWithElements steps s t = Refills steps element_bits (waiting_bits s.waiting) (running s.source) (waiting_bits t.waiting) (running t.source)

  -- how many bits an `ElementsToWords` has left at most, where `left` says how many elements its source has left at most
  abbrev pub elements_to_words_bits : (Fuse S → Count) → ElementsToWords S → Count
  elements_to_words_bits left s = count_map (λ n. s.waiting.count + 63 * n) (left s.source)
