-- Which of the wanted rows are in hand, and which are lost.
use Rattle.std.specs.Prelude.{◌≡◌, ℕ, ◌+◌, ◌*◌, ◌<◌, ◌⊎◌, List, length, slice_index, slice_index_or, Contains}
use Rattle.std.specs.List.Sorted.{IsStrictlyIncreasing}
use Rattle.systematic_shards.specs.declared.rows.Row.{Row}
use Rattle.systematic_shards.specs.Words.{IsWithin}

-- of the first n wanted indices those that are not among the indices in hand are lost, each with its place among the wanted
pub record AreLost (indices wanted : List ℕ) (n : ℕ) (lost places : List ℕ) : Type 0 where
  pub count : length lost ≡ length places
  pub rise : IsStrictlyIncreasing places
  pub inside : (j : ℕ) → j < length places → slice_index places j < n
  pub index : (j : ℕ) → j < length places → slice_index lost j ≡ slice_index wanted (slice_index places j)
  pub missing : (j : ℕ) → j < length places → ¬ (Contains indices (slice_index lost j))
  pub all : (t : ℕ) → t < n → Contains indices (slice_index wanted t) ⊎ ((j : ℕ) × (j < length places) × (slice_index places j ≡ t))

-- the first n wanted rows that are in hand have the words of these, row after row, in the room
abbrev pub AreCopied : {M : Type 0} → (List M → ℕ → ℕ) → ℕ → List ℕ → List (Row M) → List ℕ → ℕ → (ℕ → ℕ) → Type 0
AreCopied {M} word width indices rows wanted n room =
    (t p k : ℕ) (d : Row M) → t < n → p < length rows → slice_index indices p ≡ slice_index wanted t → k < width
    → room (t * width + k) ≡ word (slice_index_or rows p d).cells.now k

-- `size` bytes have room for the words of the first n wanted rows that are in hand, row after row
abbrev pub AreCopiesWithin : {M : Type 0} → ℕ → (List M → ℕ → ℕ) → ℕ → List ℕ → List (Row M) → List ℕ → ℕ → Type 0
AreCopiesWithin {M} size word width indices rows wanted n =
    (t p k : ℕ) (d : Row M) → t < n → p < length rows → slice_index indices p ≡ slice_index wanted t → k < width
    → IsWithin size (t * width + k) (word (slice_index_or rows p d).cells.now k)
