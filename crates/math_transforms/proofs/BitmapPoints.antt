-- What the words of a bitmap say of its points.
use Rattle.std.proofs.Common.{◌≡◌, ℕ, zero, suc, ◌+◌, ◌-◌, ◌*◌, ◌/◌, ◌%◌, ◌^◌, ◌<◌, ◌≤◌, ◌==◌, Bool, true, false, cond, List, [], ◌∷◌, Some, length, get_or, set, map, min, replicate, refl, sym, ap, ap₂, subst, ◌∙◌, arith, pow-add, lit<, inl, inr}
use Rattle.std.specs.Int.{bit_at}
use Rattle.std.specs.Int.RustNames.{bit_or, count_ones}
use Rattle.std.specs.List.{All, slice_get, sum_by}
use Rattle.std.proofs.Math.Nat.{pow-le-pow_right}
use Rattle.std.proofs.lemmas.Bool.{cases_lt, cases_order, false_from_ne_true}
use Rattle.std.proofs.lemmas.Bool.Decides.{Decides-eqb}
use Rattle.std.proofs.lemmas.List.{get_or-map, length-map, length-replicate, length-set, map-append, map-set}
use Rattle.std.proofs.lemmas.List.Elements.{All-get_or, All-head, All-replicate, All-tail, All-set}
use Rattle.std.proofs.lemmas.List.Sums.{count_by-le-length, sum_by-append, sum_by-cons}
use Rattle.std.proofs.lemmas.Nat.{one_shl, ones_cat, or_lt, pow_below, pow_pos}
use Rattle.std.proofs.lemmas.Nat.Bits.{ones_shr}
use Rattle.std.proofs.lemmas.Slice.Eq.{slice_eq-Decides}
use Rattle.std.specs.Cmp.Lexicographic.{pointwise}
use mathlib.Core.Bool.{beq}
use Rattle.std.proofs.lemmas.Option.{slice_get-get_or}
use Rattle.math_numbers.specs.Bits.{bits, bits-zero, bits-suc, cut, joined, IsBit}
use Rattle.math_theory.specs.Recovery.{count_true}
use Rattle.math_numbers.proofs.BitLists.{bits-of_zero, length-joined, joined-are_bits}
use Rattle.math_numbers.proofs.BitPieces.{cut-of_joined}
use Rattle.math_transforms.specs.Bitmaps.{points_a_word, truth_values, word_count, IsBitmap}
use Rattle.math_transforms.proofs.WordBits.{bits-ones, bits-with_bit, get_or-joined, joined-replicate, joined-set}

abbrev pub is_one : ℕ → Bool
is_one b = b == 1

abbrev pub one_if : Bool → ℕ
one_if t = cond t 1 0

one_if-is_one : (b : ℕ) → b < 2 → one_if (is_one b) ≡ b
one_if-is_one zero h = refl
one_if-is_one (suc zero) h = refl
one_if-is_one (suc (suc b)) h = absurd (omega arith)

map-replicate : {X Y : Type 0} (f : X → Y) (n : ℕ) (x : X) → map f (replicate n x) ≡ replicate n (f x)
map-replicate f zero x = refl
map-replicate f (suc n) x = ap (λ l. f x ∷ l) (map-replicate f n x)

pub points_a_word-le : (lg : ℕ) → points_a_word lg ≤ 64
points_a_word-le lg = let e : min lg 6 ≤ 6 = omega arith in pow-le-pow_right (lit< tt) e

-- the points of all words are the 2^lg points
pub all_points : (lg : ℕ) → points_a_word lg * word_count lg ≡ 2 ^ lg
all_points lg = sym (pow-add 2 (min lg 6) (lg - 6)) ∙ ap (λ t. 2 ^ t) (let e : min lg 6 + (lg - 6) ≡ lg = omega arith in e)

-- the place of a point: its bit, its word, and its number by these two
pub place_of : (lg index : ℕ) → index < 2 ^ lg
    → (index % 64 < points_a_word lg) × (index / 64 < word_count lg) × (points_a_word lg * (index / 64) + index % 64 ≡ index)
place_of lg index h =
    elim (cases_lt lg 6) as (λ _. (index % 64 < points_a_word lg) × (index / 64 < word_count lg) × (points_a_word lg * (index / 64) + index % 64 ≡ index)) [
      | inl few ↦
          let p : points_a_word lg ≡ 2 ^ lg = ap (λ t. 2 ^ t) (let m : min lg 6 ≡ lg = omega arith in m) in
          let w : word_count lg ≡ 1 = ap (λ t. 2 ^ t) (let z : lg - 6 ≡ 0 = omega arith in z) in
          let below : 2 ^ lg ≤ 2 ^ 6 = (let e : lg ≤ 6 = omega arith in pow-le-pow_right (lit< tt) e) in
          let q : index / 64 ≡ 0 = omega arith in
          let z : points_a_word lg * (index / 64) ≡ points_a_word lg * 0 = ap (λ t. points_a_word lg * t) q in
          (omega arith, omega arith, omega arith)
      | inr many ↦
          let p : points_a_word lg ≡ 64 = ap (λ t. 2 ^ t) (let m : min lg 6 ≡ 6 = omega arith in m) in
          let s : 2 ^ lg ≡ word_count lg * 64 = ap (λ t. 2 ^ t) (let e : lg ≡ lg - 6 + 6 = omega arith in e) ∙ pow-add 2 (lg - 6) 6 in
          let z : points_a_word lg * (index / 64) ≡ 64 * (index / 64) = ap (λ t. t * (index / 64)) p in
          (omega arith, omega arith, omega arith)
    ]

module _ (lg : ℕ) (words : List ℕ) (whole : IsBitmap lg words) where
  pub length-truth_values : length (truth_values lg words) ≡ 2 ^ lg
  length-truth_values = grind (arith, length-map, length-joined, all_points)

  module _ (index : ℕ) (within : index < length (truth_values lg words)) where
    below : index < 2 ^ lg
    below = subst (λ t. index < t) length-truth_values within

    pub word_within : index / 64 < length words
    word_within = subst (λ t. index / 64 < t) (sym whole.whole) (place_of lg index below).1

    -- a point's truth value is its bit in its word
    pub truth_value_at : slice_get (truth_values lg words) index ≡ Some (is_one (bit_at (get_or words (index / 64) 0) (index % 64)))
    truth_value_at =
        let place = place_of lg index below in
        let many : index < length (joined (points_a_word lg) words) = subst (λ t. index < t) (length-map (joined (points_a_word lg) words) is_one) within in
        slice_get-get_or (truth_values lg words) index false within
        ∙ ap Some (
        get_or-map is_one (joined (points_a_word lg) words) index 0 false many
        ∙ ap (λ t. is_one (get_or (joined (points_a_word lg) words) t 0)) (sym place.2)
        ∙ ap is_one (get_or-joined (points_a_word lg) (index / 64) (index % 64) words place.0 word_within)
        )

    abbrev pub marked : ℕ
    marked = bit_or (get_or words (index / 64) 0) (1 * 2 ^ (index % 64) % 2 ^ 64)

    -- with the point's bit set, its truth value is true, and the others are what they were
    pub truth_values-set : truth_values lg (set words (index / 64) marked) ≡ set (truth_values lg words) index true
    truth_values-set =
        let place = place_of lg index below in
        let k = points_a_word lg in
        ap (map is_one) (
        joined-set k (index / 64) (index % 64) marked words place.0 word_within
        (bits-with_bit k (get_or words (index / 64) 0) (index % 64) (points_a_word-le lg) place.0)
        ∙ ap (λ t. set (joined k words) t 1) place.2
        )
        ∙ map-set is_one (joined k words) index 1

    pub IsBitmap-set : IsBitmap lg (set words (index / 64) marked)
    IsBitmap-set =
        let place = place_of lg index below in
        let k = points_a_word lg in
        let one : 1 * 2 ^ (index % 64) % 2 ^ 64 ≡ 2 ^ (index % 64) = one_shl (index % 64) 64 (omega arith) in
        let bit : 2 ^ (index % 64) < 2 ^ k = pow_below (index % 64) k place.0 in
        record {
          small = whole.small;
          whole = length-set words (index / 64) marked ∙ whole.whole;
          within = All-set (λ word. word < 2 ^ k) words (index / 64) marked
              (or_lt k (get_or words (index / 64) 0) (1 * 2 ^ (index % 64) % 2 ^ 64)
              (All-get_or (λ word. word < 2 ^ k) words (index / 64) 0 word_within whole.within) (omega arith))
              whole.within;
        }

pub IsBitmap-zeros : (lg : ℕ) → lg < 64 → IsBitmap lg (replicate (word_count lg) 0)
IsBitmap-zeros lg small =
    record {
      small = small;
      whole = length-replicate (word_count lg) 0;
      within = All-replicate (λ word. word < 2 ^ points_a_word lg) (word_count lg) 0 (pow_pos (points_a_word lg));
    }

-- words of zeros, and words of ones
pub truth_values-zeros : (lg : ℕ) → truth_values lg (replicate (word_count lg) 0) ≡ replicate (2 ^ lg) false
truth_values-zeros lg =
    ap (map is_one) (joined-replicate (points_a_word lg) (word_count lg) 0 0 (bits-of_zero (points_a_word lg)) ∙ ap (λ t. replicate t 0) (all_points lg))
    ∙ map-replicate is_one (2 ^ lg) 0

pub truth_values-ones : (lg : ℕ) → truth_values lg (replicate (word_count lg) (2 ^ points_a_word lg - 1)) ≡ replicate (2 ^ lg) true
truth_values-ones lg =
    let k = points_a_word lg in
    ap (map is_one) (joined-replicate k (word_count lg) (2 ^ k - 1) 1 (bits-ones k) ∙ ap (λ t. replicate t 1) (all_points lg))
    ∙ map-replicate is_one (2 ^ lg) 1

-- bits are what their truth values say
one_if-map : (bs : List ℕ) → All IsBit bs → map one_if (map is_one bs) ≡ bs
one_if-map [] h = refl
one_if-map (b ∷ bs) h = ap₂ (λ x l. x ∷ l) (one_if-is_one b (All-head IsBit b bs h)) (one_if-map bs (All-tail IsBit b bs h))

-- bitmaps with the same truth values have the same words
pub words_by_truth_values : (lg : ℕ) (a b : List ℕ) → IsBitmap lg a → IsBitmap lg b → truth_values lg a ≡ truth_values lg b → a ≡ b
words_by_truth_values lg a b f g h =
    let k = points_a_word lg in
    let e : joined k a ≡ joined k b = sym (one_if-map (joined k a) (joined-are_bits k a)) ∙ ap (map one_if) h ∙ one_if-map (joined k b) (joined-are_bits k b) in
    let positive : 0 < k = pow_pos (min lg 6) in
    sym (cut-of_joined k a positive f.within) ∙ ap (cut k) e ∙ cut-of_joined k b positive g.within

-- and as many points
pub lg_by_truth_values : (l m : ℕ) (a b : List ℕ) → IsBitmap l a → IsBitmap m b → truth_values l a ≡ truth_values m b → l ≡ m
lg_by_truth_values l m a b f g h =
    let e : 2 ^ l ≡ 2 ^ m = sym (length-truth_values l a f) ∙ ap length h ∙ length-truth_values m b g in
    elim (cases_order l m) as (λ _. l ≡ m) [
      | inl same ↦ same
      | inr (inl less) ↦ absurd (let o : 2 ^ l < 2 ^ m = pow_below l m less in omega arith)
      | inr (inr more) ↦ absurd (let o : 2 ^ m < 2 ^ l = pow_below m l more in omega arith)
    ]

count_ones-bit : (b : ℕ) → b < 2 → count_ones b ≡ b
unfolding count_ones
count_ones-bit zero h = refl
count_ones-bit (suc zero) h = refl
count_ones-bit (suc (suc b)) h = absurd (omega arith)

same_tests : (p q : Bool) → (p ≡ true → q ≡ true) → (q ≡ true → p ≡ true) → p ≡ q
same_tests true q f g = sym (f refl)
same_tests false true f g = g refl
same_tests false false f g = refl

-- the ones of a word are the ones among its bits
count_true-bits : (k n : ℕ) → n < 2 ^ k → count_true (map is_one (bits k n)) ≡ count_ones n
count_true-bits zero n h =
    let z : n ≡ 0 = omega arith in
    ap (λ l. count_true (map is_one l)) (bits-zero n) ∙ sym (ap count_ones z ∙ count_ones-bit 0 (lit< tt))
count_true-bits (suc k) n h =
    let half : n / 2 < 2 ^ k = omega (arith, pow-add 2 1 k, let e : 1 + k ≡ suc k = omega arith in ap (λ t. 2 ^ t) e) in
    let low : n % 2 < 2 = omega arith in
    let split : n / 2 * 2 ^ 1 + n % 2 ≡ n = omega arith in
    ap (λ l. count_true (map is_one l)) (bits-suc k n)
    ∙ sum_by-cons one_if (is_one (n % 2)) (map is_one (bits k (n / 2)))
    ∙ ap₂ (λ x y. x + y) (one_if-is_one (n % 2) low ∙ sym (count_ones-bit (n % 2) low)) (count_true-bits k (n / 2) half)
    ∙ (let c : count_ones (n % 2) + count_ones (n / 2) ≡ count_ones (n / 2) + count_ones (n % 2) = omega arith in c)
    ∙ sym (ones_cat 1 (n / 2) (n % 2) low)
    ∙ ap count_ones split

count_true-joined : (k : ℕ) (words : List ℕ) → All (λ word. word < 2 ^ k) words → count_true (map is_one (joined k words)) ≡ sum_by count_ones words
count_true-joined k [] h = refl
count_true-joined k (word ∷ words) h =
    ap count_true (map-append is_one (bits k word) (joined k words))
    ∙ sum_by-append one_if (map is_one (bits k word)) (map is_one (joined k words))
    ∙ ap₂ (λ x y. x + y) (count_true-bits k word (All-head (λ t. t < 2 ^ k) word words h)) (count_true-joined k words (All-tail (λ t. t < 2 ^ k) word words h))
    ∙ sym (sum_by-cons count_ones word words)

-- the points that do not vanish are counted by whole words
pub count_true-words : (lg : ℕ) (words : List ℕ) → IsBitmap lg words → count_true (truth_values lg words) ≡ sum_by count_ones words
count_true-words lg words whole = count_true-joined (points_a_word lg) words whole.within

-- a test of two lists of words is the test of their truth values
pub equal_words : (l m : ℕ) (a b : List ℕ) → IsBitmap l a → IsBitmap m b → (r : Bool) → l ≡ m → r ≡ pointwise ◌==◌ a b
    → r ≡ pointwise beq (truth_values l a) (truth_values m b)
equal_words l m a b f g r e h = grind (arith, slice_eq-Decides, Decides-eqb, same_tests, words_by_truth_values)

-- bitmaps of other sizes have other truth values
pub unequal_sizes : (l m : ℕ) (a b : List ℕ) → IsBitmap l a → IsBitmap m b → (l ≡ m → ⊥) → pointwise beq (truth_values l a) (truth_values m b) ≡ false
unequal_sizes l m a b f g differ = grind (arith, slice_eq-Decides, false_from_ne_true, lg_by_truth_values)

-- the highest word shifted to the number of points
pub shifted_word : (lg few : ℕ) → few ≡ min lg 6
    → (1 * 2 ^ few % 2 ^ 32 ≤ 64) × ((2 ^ 64 - 1) / 2 ^ (64 - 1 * 2 ^ few % 2 ^ 32) + 1 ≡ 2 ^ points_a_word lg)
shifted_word lg few h =
    let p : 1 * 2 ^ few % 2 ^ 32 ≡ points_a_word lg = one_shl few 32 (omega arith) ∙ ap (λ t. 2 ^ t) h in
    let le : points_a_word lg ≤ 64 = points_a_word-le lg in
    let s : (2 ^ 64 - 1) / 2 ^ (64 - points_a_word lg) ≡ 2 ^ (64 - (64 - points_a_word lg)) - 1 = ones_shr 64 (64 - points_a_word lg) (omega arith) in
    let e : 2 ^ (64 - (64 - points_a_word lg)) ≡ 2 ^ points_a_word lg = ap (λ t. 2 ^ t) (let z : 64 - (64 - points_a_word lg) ≡ points_a_word lg = omega arith in z) in
    let positive : 0 < 2 ^ points_a_word lg = pow_pos (points_a_word lg) in
    (omega arith, ap (λ t. (2 ^ 64 - 1) / 2 ^ (64 - t) + 1) p ∙ (omega arith))

-- that number fits a word
pub count_fits : (lg : ℕ) (words : List ℕ) → IsBitmap lg words → sum_by count_ones words < 2 ^ 64
count_fits lg words whole =
    let e : count_true (truth_values lg words) ≡ sum_by count_ones words = count_true-words lg words whole in
    let l : length (truth_values lg words) ≡ 2 ^ lg = length-truth_values lg words whole in
    let m : 2 ^ lg < 2 ^ 64 = pow_below lg 64 whole.small in
    omega (arith, count_by-le-length (λ b. b) (truth_values lg words))
