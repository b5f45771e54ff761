-- The bits of the words of a list.
use Rattle.std.proofs.Common.{◌≡◌, ℕ, zero, suc, ◌+◌, ◌-◌, ◌*◌, ◌/◌, ◌%◌, ◌^◌, ◌<◌, ◌≤◌, List, [], ◌∷◌, ◌++◌, length, get_or, set, replicate, sym, ap, ap₂, ◌∙◌, arith, inl, inr}
use Rattle.std.specs.Int.{bit_at, w64}
use Rattle.std.specs.Int.RustNames.{bit_or}
use Rattle.std.proofs.lemmas.Bool.{cases_eq}
use Rattle.std.proofs.lemmas.List.{ext_get_or, length-set, length-replicate, get_or-set_same, get_or-set_other, get_or-replicate, get_or_append_left, get_or-append-add, set-append_left, set-append_right, replicate-append-replicate}
use Rattle.std.proofs.lemmas.Nat.Bits.{bit_at_lowest, bit_at-suc, bit_at_set_same, bit_at_set_other, bit_at_ones}
use Rattle.math_numbers.specs.Bits.{bits, bits-suc, joined}
use Rattle.math_numbers.proofs.BitLists.{length-bits}

-- item i of the bits of n is bit i
pub get_or-bits : (k n i : ℕ) → i < k → get_or (bits k n) i 0 ≡ bit_at n i
get_or-bits zero n i h = absurd (omega arith)
get_or-bits (suc k) n zero h = ap (λ l. get_or l 0 0) (bits-suc k n) ∙ sym (bit_at_lowest n)
get_or-bits (suc k) n (suc i) h =
    ap (λ l. get_or l (suc i) 0) (bits-suc k n) ∙ get_or-bits k (n / 2) i (omega arith) ∙ sym (bit_at-suc n i)

-- a word with bit j set has the bits of the word, but for a one at j
pub bits-with_bit : (k n j : ℕ) → k ≤ 64 → j < k → bits k (bit_or n (1 * 2 ^ j % 2 ^ 64)) ≡ set (bits k n) j 1
bits-with_bit k n j few h =
    let new : ℕ = bit_or n (1 * 2 ^ j % 2 ^ 64) in
    let size : length (bits k new) ≡ k = length-bits k new in
    let before : length (bits k n) ≡ k = length-bits k n in
    let here : j < 64 = omega arith in
    ext_get_or 0 (bits k new) (set (bits k n) j 1) (size ∙ sym before ∙ sym (length-set (bits k n) j 1)) (λ i l.
    let within : i < k = omega arith in
    elim (cases_eq i j) as (λ _. get_or (bits k new) i 0 ≡ get_or (set (bits k n) j 1) i 0) [
      | inl same ↦
          get_or-bits k new i within ∙ ap (λ t. bit_at new t) same ∙ bit_at_set_same w64 n j here
          ∙ sym (ap (λ t. get_or (set (bits k n) j 1) t 0) same ∙ get_or-set_same (bits k n) j 1 0 (omega arith))
      | inr other ↦
          get_or-bits k new i within ∙ bit_at_set_other w64 n j here i other ∙ sym (get_or-bits k n i within)
          ∙ sym (get_or-set_other (bits k n) j i 1 0 other)
    ])

-- the word of k ones
pub bits-ones : (k : ℕ) → bits k (2 ^ k - 1) ≡ replicate k 1
bits-ones k =
    let size : length (bits k (2 ^ k - 1)) ≡ k = length-bits k (2 ^ k - 1) in
    ext_get_or 0 (bits k (2 ^ k - 1)) (replicate k 1) (size ∙ sym (length-replicate k 1)) (λ i l.
    let within : i < k = omega arith in
    get_or-bits k (2 ^ k - 1) i within ∙ bit_at_ones k i within ∙ sym (get_or-replicate k i 1 0 within))

-- words that all have the same bits
pub joined-replicate : (k n word b : ℕ) → bits k word ≡ replicate k b → joined k (replicate n word) ≡ replicate (k * n) b
joined-replicate k zero word b h = ap (λ t. replicate t b) (let e : 0 ≡ k * 0 = omega arith in e)
joined-replicate k (suc n) word b h =
    ap₂ (λ l r. l ++ r) h (joined-replicate k n word b h) ∙ replicate-append-replicate k (k * n) b
    ∙ ap (λ t. replicate t b) (let e : k + k * n ≡ k * suc n = omega arith in e)

-- item k q + j of the joined bits is bit j of word q
pub get_or-joined : (k q j : ℕ) (words : List ℕ) → j < k → q < length words → get_or (joined k words) (k * q + j) 0 ≡ bit_at (get_or words q 0) j
get_or-joined k q j [] h l = absurd (omega arith)
get_or-joined k zero j (word ∷ words) h l =
    let size : length (bits k word) ≡ k = length-bits k word in
    ap (λ t. get_or (joined k (word ∷ words)) t 0) (let e : k * 0 + j ≡ j = omega arith in e)
    ∙ get_or_append_left (bits k word) (joined k words) 0 j (omega arith) ∙ get_or-bits k word j h
get_or-joined k (suc q) j (word ∷ words) h l =
    let size : length (bits k word) ≡ k = length-bits k word in
    ap (λ t. get_or (joined k (word ∷ words)) t 0) (let e : k * suc q + j ≡ length (bits k word) + (k * q + j) = omega arith in e)
    ∙ get_or-append-add (bits k word) (joined k words) (k * q + j) 0 ∙ get_or-joined k q j words h (omega arith)

-- a word in place of word q, with a one more at j
pub joined-set : (k q j new : ℕ) (words : List ℕ) → j < k → q < length words → bits k new ≡ set (bits k (get_or words q 0)) j 1
    → joined k (set words q new) ≡ set (joined k words) (k * q + j) 1
joined-set k q j new [] h l e = absurd (omega arith)
joined-set k zero j new (word ∷ words) h l e =
    let size : length (bits k word) ≡ k = length-bits k word in
    ap (λ t. t ++ joined k words) e ∙ sym (set-append_left (bits k word) (joined k words) j 1 (omega arith))
    ∙ ap (λ t. set (joined k (word ∷ words)) t 1) (let z : j ≡ k * 0 + j = omega arith in z)
joined-set k (suc q) j new (word ∷ words) h l e =
    let size : length (bits k word) ≡ k = length-bits k word in
    let place : k * suc q + j - k ≡ k * q + j = omega arith in
    ap (λ t. bits k word ++ t) (joined-set k q j new words h (omega arith) e)
    ∙ sym (set-append_right (bits k word) (joined k words) k (k * suc q + j) 1 size (omega arith) ∙ ap (λ t. bits k word ++ set (joined k words) t 1) place)
