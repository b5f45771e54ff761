-- Words under a mask: the high half of a word, of 32 bits, xor the mask.
use Rattle.std.specs.Prelude.{◌≡◌, ◌≢◌, ℕ, ◌+◌, ◌-◌, ◌*◌, ◌/◌, ◌%◌, ◌<◌, ◌^◌, List, Bool, true, false, length, slice_index_or, bit_xor}

-- the upper 32 bits of a word
abbrev pub high_half : ℕ → ℕ
high_half word = word / 2 ^ 32

-- the word with its high half xor the mask
abbrev pub masked_number : ℕ → ℕ → ℕ
masked_number mask word = bit_xor (high_half word) mask * 2 ^ 32 + word % 2 ^ 32

-- the high half of the word xor the mask is not all ones
abbrev pub IsFreeOf : ℕ → ℕ → Type 0
IsFreeOf mask word = bit_xor (high_half word) mask ≢ 2 ^ 32 - 1

-- the mask is free of each of the first n words
abbrev pub IsFree : ℕ → (ℕ → ℕ) → ℕ → Type 0
IsFree n word mask = (k : ℕ) → k < n → IsFreeOf mask (word k)

-- the mask is the least number that is free of each of the first n words
pub record IsLeastMask (n : ℕ) (word : ℕ → ℕ) (mask : ℕ) : Type 0 where
  pub free : IsFree n word mask
  pub least : (m : ℕ) → m < mask → ¬ (IsFree n word m)

-- the number whose 32 bits are the opposite of the bits of the high half of the word
abbrev pub complement : ℕ → ℕ
complement word = 2 ^ 32 - 1 - high_half word

-- the first i are words, and place j, of which there are n, is true exactly where the complement of one of them is j
pub record AreTaken (n : ℕ) (word : ℕ → ℕ) (i : ℕ) (taken : List Bool) : Type 0 where
  pub size : length taken ≡ n
  pub fit : (t : ℕ) → t < i → word t < 2 ^ 64
  pub sound : (j : ℕ) → slice_index_or taken j false ≡ true → (t : ℕ) × (t < i) × (complement (word t) ≡ j)
  pub complete : (t : ℕ) → t < i → complement (word t) < n → slice_index_or taken (complement (word t)) false ≡ true

-- masked twice a word is what it was
abbrev pub UnmaskedIsMasked : Type 0
UnmaskedIsMasked = (mask word : ℕ) → mask < 2 ^ 32 → word < 2 ^ 64 → masked_number mask (masked_number mask word) ≡ word
