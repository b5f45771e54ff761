-- Rows of successive indices, and room for rows one after the other.
use Rattle.std.proofs.Common.{◌≡◌, ◌∙◌, ℕ, ◌+◌, ◌-◌, ◌*◌, ◌<◌, ◌≤◌, ◌^◌, List, [], ◌∷◌, ◌++◌, map-id, get_or, sym, ap, arith}
use Rattle.std.specs.List.{All, Contains, range_with_len}
use Rattle.std.proofs.lemmas.List.FromFn.{get_or-range_with_len, length-range_with_len, map-range_with_len_more}
use Rattle.std.proofs.lemmas.Nat.{mul-le}
use Rattle.math_fields.specs.declared.goldilocks.F.{F}
use Rattle.math_restoring.specs.Restored.{AreDistinct}
use Rattle.systematic_shards.specs.declared.split.Split.{Split}
use Rattle.systematic_shards.specs.Shards.{AreRowsAt, word_in}
use Rattle.math_transforms.specs.RootWeights.{AreRising}
use Rattle.systematic_shards.specs.Words.{IsWithin}
use Rattle.systematic_shards.proofs.Bytes.{within-room}

-- one index more
pub range-more : (from i : ℕ) (xs : List ℕ) → from ≤ i → xs ≡ range_with_len from (i - from) → xs ++ i ∷ [] ≡ range_with_len from (i + 1 - from)
range-more from i xs l is =
    let e : i - from + 1 ≡ i + 1 - from = omega (arith, l) in
    ap (λ ys. ys ++ i ∷ []) (is ∙ sym (map-id (range_with_len from (i - from)))) ∙ sym (map-range_with_len_more (λ j. j) from (i - from) i (omega (arith, l))) ∙ map-id (range_with_len from (i - from + 1))
    ∙ ap (range_with_len from) e

pub range-next : (n : ℕ) (xs : List ℕ) → xs ≡ range_with_len 0 n → xs ++ n ∷ [] ≡ range_with_len 0 (n + 1)
range-next n xs is =
    ap (λ ys. ys ++ n ∷ []) (is ∙ sym (map-id (range_with_len 0 n))) ∙ sym (map-range_with_len_more (λ i. i) 0 n n (omega arith)) ∙ map-id (range_with_len 0 (n + 1))

-- successive indices rise
pub range-rising : (from n total : ℕ) → from + n ≤ total → AreRising total (range_with_len from n)
range-rising from n total within = (
  λ k l.
      let b : k + 1 < n = omega (arith, l, length-range_with_len from n) in
      omega (arith, get_or-range_with_len from n k 0 (omega (arith, b)), get_or-range_with_len from n (k + 1) 0 b),
  λ k d l.
      let b : k < n = omega (arith, l, length-range_with_len from n) in
      omega (arith, get_or-range_with_len from n k d b, b, within),
)

pub range-distinct : (from n : ℕ) → AreDistinct (range_with_len from n)
range-distinct from n i j l m e =
    let b : j < n = omega (arith, m, length-range_with_len from n) in
    omega (arith, l, e, get_or-range_with_len from n i 0 (omega (arith, l, b)), get_or-range_with_len from n j 0 b)

-- rows of successive indices
pub rows-from_range : (split : Split) (mask : ℕ) (a : ℕ → ℕ → F) (from n : ℕ) (word : ℕ → ℕ)
    → ((t k : ℕ) → t < n → k < split.width → word (t * split.width + k) ≡ word_in split.min mask (from + t) (a (from + t) k)) → AreRowsAt split mask a (range_with_len from n) word
rows-from_range split mask a from n word h t l k m =
    let b : t < n = omega (arith, l, length-range_with_len from n) in
    h t k b m ∙ ap (λ i. word_in split.min mask i (a i k)) (sym (get_or-range_with_len from n t 0 b))

pub rows-to_range : (split : Split) (mask : ℕ) (a : ℕ → ℕ → F) (from n : ℕ) (word : ℕ → ℕ) → AreRowsAt split mask a (range_with_len from n) word
    → (t k : ℕ) → t < n → k < split.width → word (t * split.width + k) ≡ word_in split.min mask (from + t) (a (from + t) k)
rows-to_range split mask a from n word h t k l m =
    h t (omega (arith, l, length-range_with_len from n)) k m ∙ ap (λ i. word_in split.min mask i (a i k)) (get_or-range_with_len from n t 0 l)

-- a word of row t of n rows lies before the end of so many bytes
pub room-at : (size n width t k : ℕ) → size ≡ n * (8 * width) → t < n → k < width → 8 * (t * width + k) + 8 ≤ size
room-at size n width t k is l m =
    let up : (t + 1) * width ≤ n * width = mul-le (t + 1) width n width (omega (arith, l)) (omega arith) in
    let next : (t + 1) * width ≡ t * width + width = grind arith in
    let turn : n * (8 * width) ≡ 8 * (n * width) = grind arith in
    omega (arith, up, next, turn, is, m)

pub room-for : (size n width t k word : ℕ) → size ≡ n * (8 * width) → t < n → k < width → word < 2 ^ 64 → IsWithin size (t * width + k) word
room-for size n width t k word is l m fits = within-room size (t * width + k) word (room-at size n width t k is l m) fits

-- places below n have no words past those of n rows
pub places-inside : (n most width bound : ℕ) (places : List ℕ) → All (λ p. p < n) places → n ≤ most → most * width ≤ bound → All (λ p. (p + 1) * width ≤ bound) places
places-inside n most width bound places below within room k d l =
    let p : ℕ = get_or places k d in
    let b : p < n = below k d l in
    let up : (p + 1) * width ≤ most * width = mul-le (p + 1) width most width (omega (arith, b, within)) (omega arith) in
    omega (arith, up, room)

-- later indices are not among the first ones
pub ranges-apart : (n m : ℕ) → All (λ i. ¬ (Contains (range_with_len 0 n) i)) (range_with_len n m)
ranges-apart n m k d l (t, b, e) =
    let i : ℕ = get_or (range_with_len n m) k d in
    let c : t < n = omega (arith, b, length-range_with_len 0 n) in
    let m_in : k < m = omega (arith, l, length-range_with_len n m) in
    omega (arith, c, e, get_or-range_with_len 0 n t i c, get_or-range_with_len n m k d m_in)
