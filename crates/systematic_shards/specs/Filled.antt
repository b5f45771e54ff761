-- Rows that are written, and compared, some columns at a time.
use Rattle.std.specs.Prelude.{◌≡◌, ◌≢◌, ℕ, ◌+◌, ◌*◌, ◌<◌, ◌≤◌, ◌^◌, List, length, slice_index, All}
use Rattle.math_fields.specs.declared.goldilocks.F.{F}
use Rattle.math_restoring.specs.Restored.{AreDistinct, item}
use Rattle.systematic_shards.specs.declared.split.Split.{Split}
use Rattle.systematic_shards.specs.Shards.{word_in}
use Rattle.systematic_shards.specs.Words.{IsWithin}

-- the word in column k of the row of index number j of a
abbrev pub row_word : Split → ℕ → (ℕ → ℕ → F) → List ℕ → ℕ → ℕ → ℕ
row_word split mask a indices j k = word_in split.min mask (slice_index indices j) (a (slice_index indices j) k)

-- the word, in the row of index number j, of the element that is made for its column c
abbrev pub made_word : Split → ℕ → List ℕ → ℕ → List F → ℕ → ℕ → ℕ
made_word split mask indices cols made j c = word_in split.min mask (slice_index indices j) (item made (j * cols + c))

-- each index has a place of its own among rows of this width, which end at word 2^61 or before
pub record ArePlaces (width : ℕ) (indices places : List ℕ) : Type 0 where
  pub count : length places ≡ length indices
  pub apart : AreDistinct places
  pub inside : All (λ p. (p + 1) * width ≤ 2 ^ 61) places

-- `cols` words, from column `from` on, of each of the first n rows are written, the words of row j into row number `places` j, and all
-- others are as they were
pub record AreRunsFilled (width from cols : ℕ) (places : List ℕ) (value : ℕ → ℕ → ℕ) (n : ℕ) (old new : ℕ → ℕ) : Type 0 where
  pub written : (j c : ℕ) → j < n → c < cols → new (slice_index places j * width + (from + c)) ≡ value j c
  pub others : (i : ℕ) → ((j c : ℕ) → j < n → c < cols → i ≢ slice_index places j * width + (from + c)) → new i ≡ old i

-- n columns are written, row j into row number `places` j, and all words of other rows are as they were
pub record AreFilled (width : ℕ) (places : List ℕ) (value : ℕ → ℕ → ℕ) (n : ℕ) (old new : ℕ → ℕ) : Type 0 where
  pub written : (j k : ℕ) → j < length places → k < n → new (slice_index places j * width + k) ≡ value j k
  pub others : (i : ℕ) → ((j k : ℕ) → j < length places → k < width → i ≢ slice_index places j * width + k) → new i ≡ old i

-- `size` bytes have room for `cols` words, from column `from` on, of the first n rows in their places
abbrev pub AreRunsWithin : ℕ → ℕ → ℕ → ℕ → List ℕ → (ℕ → ℕ → ℕ) → ℕ → Type 0
AreRunsWithin size width from cols places value n =
    (j c : ℕ) → j < n → c < cols → IsWithin size (slice_index places j * width + (from + c)) (value j c)

-- `size` bytes have room for the words of the rows in their places
abbrev pub AreWithinRoom : ℕ → ℕ → List ℕ → (ℕ → ℕ → ℕ) → Type 0
AreWithinRoom size width places value = (j k : ℕ) → j < length places → k < width → IsWithin size (slice_index places j * width + k) (value j k)
