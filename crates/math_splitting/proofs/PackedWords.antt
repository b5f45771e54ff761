-- One of the elements that words pack to, from the two words in which its bits stand.
use Rattle.std.proofs.Common.{◌≡◌, ◌∙◌, inl, inr, ℕ, zero, suc, ◌+◌, ◌-◌, ◌*◌, ◌/◌, ◌%◌, ◌^◌, ◌<◌, ◌≤◌, bit_and, List, [], ◌∷◌, ◌++◌, length, take, drop, get_or, replicate, refl, sym, ap, subst, arith, lit<, lit≤, length-append, append_assoc, append-nil}
use Rattle.std.proofs.Math.ListN.{get_or-map}
use Rattle.std.proofs.lemmas.Bool.{cases_lt}
use Rattle.std.proofs.lemmas.List.{take-append-le, drop-append-le, drop-drop, drop-replicate, drop_all, drop_at, drop_more, get_or_past}
use Rattle.std.proofs.lemmas.Nat.{mul-le, shr-shr, shr_below}
use Rattle.math_numbers.specs.Bits.{bits, bits-zero, cut, joined, number, pieces, pieces-suc}
use Rattle.math_numbers.proofs.BitLists.{bits-of_zero, length-bits}
use Rattle.math_numbers.proofs.BitPieces.{length-cut, piece_count-enough}
use Rattle.math_fields.specs.Elements.{residue}
use Rattle.math_fields.specs.Packing.{elements_of}
use Rattle.math_fields.proofs.BitFronts.{drop-bits, first-number}
use Rattle.math_splitting.specs.Shards.{counted}
use Rattle.math_splitting.specs.Strips.{packed_at, piece_of}
use Rattle.math_splitting.proofs.SameCells.{nought}

-- Bits in pieces.

piece_at : (k m : ℕ) (bs : List ℕ) (j : ℕ) → j < m → get_or (pieces k m bs) j 0 ≡ number (take k (drop (k * j) bs))
piece_at k zero bs j b = absurd (omega arith)
piece_at k (suc m) bs zero b =
    let e : 0 ≡ k * 0 = omega arith in
    ap (λ (ns : List ℕ). get_or ns 0 0) (pieces-suc k m bs) ∙ ap (λ n. number (take k (drop n bs))) e
piece_at k (suc m) bs (suc j) b =
    let e : k + k * j ≡ k * suc j = omega arith in
    ap (λ (ns : List ℕ). get_or ns (suc j) 0) (pieces-suc k m bs) ∙ piece_at k m (drop k bs) j (omega arith)
    ∙ ap (λ l. number (take k l)) (drop-drop (k * j) k bs ∙ ap (λ n. drop n bs) e)

take-none : (k : ℕ) → number (take k []) ≡ 0
take-none zero = refl
take-none (suc k) = refl

drop-none : (k : ℕ) → drop {A = ℕ} k [] ≡ []
drop-none zero = refl
drop-none (suc k) = refl

-- the pieces past the last one are zero too
pub cut_at : (k : ℕ) (bs : List ℕ) (j : ℕ) → 0 < k → get_or (cut k bs) j 0 ≡ number (take k (drop (k * j) bs))
cut_at k bs j positive = grind (arith, cases_lt, piece_at, piece_count-enough, mul-le, drop_all, get_or_past, length-cut, take-none)

pub element_bits_at : (words : List ℕ) (e : ℕ) → get_or (elements_of words) e nought ≡ residue (number (take 63 (drop (63 * e) (joined 64 words))))
element_bits_at words e = get_or-map residue (cut 63 (joined 64 words)) e 0 ∙ ap residue (cut_at 63 (joined 64 words) e (lit< tt))

-- Zeros behind bits write nothing.

zeros-write : (j n : ℕ) → number (take j (replicate n 0)) ≡ 0
zeros-write zero n = refl
zeros-write (suc j) zero = refl
zeros-write (suc j) (suc n) = omega (arith, zeros-write j n)

front-zeros : (j n : ℕ) (xs : List ℕ) → number (take j (xs ++ replicate n 0)) ≡ number (take j xs)
front-zeros zero n xs = refl
front-zeros (suc j) n [] = zeros-write (suc j) n
front-zeros (suc j) n (x ∷ xs) = ap (λ m. x + 2 * m) (front-zeros j n xs)

-- Words, and their bits from a word on; a word past the last one is zero.

module _ (k : ℕ) (words : List ℕ) where
  abbrev bits_from : ℕ → List ℕ
  bits_from h = joined k (drop h words)

  abbrev word_bits_at : ℕ → List ℕ
  word_bits_at h = bits k (get_or words h 0)

  within_words : (h : ℕ) → h < length words → bits_from h ≡ word_bits_at h ++ bits_from (h + 1)
  within_words h within = ap (joined k) (drop_more words h 0 within)

  past_words : (h : ℕ) → length words ≤ h → bits_from h ≡ []
  past_words h past = ap (joined k) (drop_all h words past)

  zero_past : (h : ℕ) → length words ≤ h → word_bits_at h ≡ replicate k 0
  zero_past h past = ap (bits k) (get_or_past words h 0 past) ∙ bits-of_zero k

  -- the first bits behind others are those of the next word alone
  one_word : (j h : ℕ) (xs : List ℕ) → j ≤ length xs + k → number (take j (xs ++ bits_from h)) ≡ number (take j (xs ++ word_bits_at h))
  one_word j h xs few =
      elim (cases_lt h (length words)) [
        | inl within ↦
            let long : j ≤ length (xs ++ word_bits_at h) = omega (arith, few, length-append xs (word_bits_at h), length-bits k (get_or words h 0)) in
            ap (λ l. number (take j (xs ++ l))) (within_words h within) ∙ ap (λ l. number (take j l)) (sym (append_assoc xs (word_bits_at h) (bits_from (h + 1))))
            ∙ ap number (take-append-le j (xs ++ word_bits_at h) (bits_from (h + 1)) long)
        | inr past ↦
            ap (λ l. number (take j (xs ++ l))) (past_words h past) ∙ ap (λ l. number (take j l)) (append-nil xs) ∙ sym (front-zeros j k xs)
            ∙ ap (λ l. number (take j (xs ++ l))) (sym (zero_past h past))
      ]

  -- what follows a word may be looked at apart
  next_word : (j s h : ℕ) → number (take j (drop s (bits_from h))) ≡ number (take j (drop s (word_bits_at h ++ bits_from (h + 1))))
  next_word j s h =
      elim (cases_lt h (length words)) [
        | inl within ↦ ap (λ l. number (take j (drop s l))) (within_words h within)
        | inr past ↦
            let after : bits_from (h + 1) ≡ [] = past_words (h + 1) (omega (arith, past)) in
            let left : drop s (replicate k 0) ≡ replicate (k - s) 0 = drop-replicate s k 0 in
            ap (λ l. number (take j (drop s l))) (past_words h past) ∙ ap (λ l. number (take j l)) (drop-none s) ∙ take-none j
            ∙ sym (zeros-write j (k - s)) ∙ ap (λ l. number (take j l)) (sym left) ∙ ap (λ l. number (take j (drop s l))) (sym (append-nil (replicate k 0)))
            ∙ ap (λ l. number (take j (drop s (l ++ [])))) (sym (zero_past h past)) ∙ ap (λ l. number (take j (drop s (word_bits_at h ++ l)))) (sym after)
      ]

-- the bits behind those of h words are those from word h on
behind_words : (k h : ℕ) (words : List ℕ) → drop (k * h) (joined k words) ≡ joined k (drop h words)
behind_words k zero words = let e : k * 0 ≡ 0 = omega arith in ap (λ n. drop n (joined k words)) e
behind_words k (suc h) [] = drop-none (k * suc h)
behind_words k (suc h) (w ∷ words) =
    let e : k * suc h ≡ k + k * h = omega arith in
    ap (λ n. drop n (bits k w ++ joined k words)) e ∙ sym (drop-drop (k * h) k (bits k w ++ joined k words))
    ∙ ap (drop (k * h)) (drop_at (bits k w) (joined k words) k (length-bits k w)) ∙ behind_words k h words

-- j bits from the start of word h on
pub from_word : (k j h : ℕ) (words : List ℕ) → j ≤ k → number (take j (drop (k * h) (joined k words))) ≡ number (take j (bits k (get_or words h 0)))
from_word k j h words few = ap (λ l. number (take j l)) (behind_words k h words) ∙ one_word k words j h [] (omega (arith, few))

-- j bits, of which the first are the highest t bits of word h
pub from_between : (k j h s t : ℕ) (words : List ℕ) → s + t ≡ k → j ≤ t + k
    → number (take j (drop (k * h + s) (joined k words))) ≡ number (take j (bits t (get_or words h 0 / 2 ^ s) ++ bits k (get_or words (h + 1) 0)))
from_between k j h s t words e few =
    let w = get_or words h 0 in
    let after : List ℕ = joined k (drop (h + 1) words) in
    let left : k - s ≡ t = omega (arith, e) in
    let within : s ≤ length (bits k w) = omega (arith, e, length-bits k w) in
    let high : drop s (bits k w) ≡ bits t (w / 2 ^ s) = drop-bits s k w ∙ ap (λ n. bits n (w / 2 ^ s)) left in
    ap (λ l. number (take j l)) (sym (drop-drop s (k * h) (joined k words))) ∙ ap (λ l. number (take j (drop s l))) (behind_words k h words)
    ∙ next_word k words j s h ∙ ap (λ l. number (take j l)) (drop-append-le s (bits k w) after within) ∙ ap (λ l. number (take j (l ++ after))) high
    ∙ one_word k words j (h + 1) (bits t (w / 2 ^ s)) (omega (arith, few, length-bits t (w / 2 ^ s)))

-- the bits of an element
bits_of_place : (words : List ℕ) (e : ℕ)
    → number (take 63 (drop (63 * e) (joined 64 words))) ≡ number (take 63 (bits (e % 64) (get_or words (e - e / 64 - 1) 0 / 2 ^ (64 - e % 64)) ++ bits 64 (get_or words (e - e / 64) 0)))
bits_of_place words e =
    let v : ℕ = get_or words (e - e / 64 - 1) 0 / 2 ^ (64 - e % 64) in
    elim (cases_lt 0 (e % 64)) [
      | inl some ↦
          let at : 63 * e ≡ 64 * (e - e / 64 - 1) + (64 - e % 64) = omega arith in
          let next : e - e / 64 - 1 + 1 ≡ e - e / 64 = omega arith in
          ap (λ n. number (take 63 (drop n (joined 64 words)))) at
          ∙ from_between 64 63 (e - e / 64 - 1) (64 - e % 64) (e % 64) words (omega arith) (omega arith)
          ∙ ap (λ n. number (take 63 (bits (e % 64) v ++ bits 64 (get_or words n 0)))) next
      | inr none ↦
          let at : 63 * e ≡ 64 * (e - e / 64) = omega arith in
          let z : 0 ≡ e % 64 = omega arith in
          ap (λ n. number (take 63 (drop n (joined 64 words)))) at ∙ from_word 64 63 (e - e / 64) words (omega arith)
          ∙ ap (λ l. number (take 63 (l ++ bits 64 (get_or words (e - e / 64) 0)))) (sym (bits-zero v))
          ∙ ap (λ n. number (take 63 (bits n v ++ bits 64 (get_or words (e - e / 64) 0)))) z
    ]

-- an element that words pack to is the piece of two of them
pub element_from_words : (words : List ℕ) (e : ℕ) → get_or (elements_of words) e nought ≡ piece_of (get_or words (e - e / 64 - 1) 0) (get_or words (e - e / 64) 0) (e % 64)
element_from_words words e = element_bits_at words e ∙ ap residue (bits_of_place words e)

-- an element that data pack to is the piece of two words
pub packed_from_words : (words : List ℕ) (e : ℕ) → packed_at words e ≡ piece_of (get_or (counted words) (e - e / 64 - 1) 0) (get_or (counted words) (e - e / 64) 0) (e % 64)
packed_from_words words e = element_from_words (counted words) e

-- the words that are packed, behind the first one
pub counted-behind : (words : List ℕ) (place : ℕ) → 0 < place → get_or (counted words) place 0 ≡ get_or words (place - 1) 0
counted-behind words zero some = absurd (omega arith)
counted-behind words (suc place) some = ap (λ n. get_or words n 0) (let e : place ≡ suc place - 1 = omega arith in e)

-- an element of a run of 64 is the piece of two words, of a list of those from the one on in which the run begins
pub run_packed : (words part : List ℕ) (first k : ℕ) → 2 ≤ first - first / 64 → first % 64 + k < 64
    → ((j : ℕ) → j ≤ k + 1 → get_or part j 0 ≡ get_or words (first - first / 64 - 2 + j) 0)
    → piece_of (get_or part k 0) (get_or part (k + 1) 0) (first % 64 + k) ≡ packed_at words (first + k)
run_packed words part first k some run read = grind (arith, counted-behind, packed_from_words)

-- the bits of two words, shifted and put together
pub both-number : (before word taken : ℕ) → before < 2 ^ 64 → word < 2 ^ 64 → taken < 64
    → bit_and ((before / 2 ^ 1 / 2 ^ (63 - taken) + word * 2 ^ taken % 2 ^ 64) % 2 ^ 64) 9223372036854775807 ≡ number (take 63 (bits taken (before / 2 ^ (64 - taken)) ++ bits 64 word))
both-number before word taken small below few =
    let shift : 1 + (63 - taken) ≡ 64 - taken = omega arith in
    let whole : 64 ≡ taken + (64 - taken) = omega arith in
    let once : before / 2 ^ 1 / 2 ^ (63 - taken) ≡ before / 2 ^ (64 - taken) = shr-shr before 1 (63 - taken) ∙ ap (λ n. before / 2 ^ n) shift in
    let fits : before < 2 ^ (taken + (64 - taken)) = subst (λ n. before < 2 ^ n) whole small in
    let high : before / 2 ^ (64 - taken) < 2 ^ taken = shr_below before taken (64 - taken) fits in
    ap (λ n. bit_and ((n + word * 2 ^ taken % 2 ^ 64) % 2 ^ 64) 9223372036854775807) once
    ∙ first-number taken 64 63 (before / 2 ^ (64 - taken)) word high below (lit≤ tt)
