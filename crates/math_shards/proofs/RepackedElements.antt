-- Elements that the words to which they unpack pack to again: all are below 2^63, and the last has no more bits than are left for it.
use Rattle.std.proofs.Common.{◌≡◌, ◌∙◌, inl, inr, ℕ, zero, suc, ◌+◌, ◌-◌, ◌*◌, ◌%◌, ◌^◌, ◌<◌, ◌≤◌, List, ◌∷◌, ◌++◌, length, map, take, drop, get_or, replicate, sym, ap, ap₂, arith, lit<, append-nil, mod-eq_of_lt}
use Rattle.std.proofs.Math.ListN.{get_or-map}
use Rattle.std.proofs.Math.Seq.{take-add}
use Rattle.std.specs.Int.{div_ceil}
use Rattle.std.specs.List.{All}
use Rattle.std.proofs.Math.Nat.{pow-le-pow_right}
use Rattle.std.proofs.lemmas.Bool.{cases_lt}
use Rattle.std.proofs.lemmas.List.{drop-take, get_or-take, length-drop, length-map, length-take, length-take-le, take-take, take_all}
use Rattle.std.proofs.lemmas.List.Elements.{All-drop, All-take}
use Rattle.math_numbers.specs.Goldilocks.{P}
use Rattle.math_numbers.specs.Bits.{IsBit, bits, joined, number, piece_count, pieces, pieces-suc, pieces-zero}
use Rattle.math_numbers.proofs.BitLists.{bits-number, joined-are_bits, length-joined}
use Rattle.math_fields.specs.declared.goldilocks.F.{F}
use Rattle.math_fields.specs.Elements as Elements
use Rattle.math_fields.specs.Packing.{elements_of}
use Rattle.math_fields.proofs.BitFronts.{number-take-bits, number_below}
use Rattle.math_fields.proofs.ElementNumbers.{residue-number}
use Rattle.math_shards.specs.Unpacking.{AreRepacked, first_words, repacked_at}
use Rattle.math_splitting.proofs.PackedWords.{element_bits_at, from_word}
use Rattle.math_splitting.proofs.SameCells.{nought}

-- the bits of the first pieces are the first bits
pub joined_pieces_first : (k m : ℕ) (bs : List ℕ) → All IsBit bs → k * m ≤ length bs → joined k (pieces k m bs) ≡ take (k * m) bs
joined_pieces_first k zero bs h l = let e : k * 0 ≡ 0 = omega arith in ap (joined k) (pieces-zero k bs) ∙ sym (ap (λ n. take n bs) e)
joined_pieces_first k (suc m) bs h l =
    let e : k + k * m ≡ k * suc m = omega arith in
    let long : length (take k bs) ≡ k = length-take-le k bs (omega (arith, l, e)) in
    let none : k - length (take k bs) ≡ 0 = omega (arith, long) in
    let first : bits k (number (take k bs)) ≡ take k bs =
    bits-number k (take k bs) (All-take IsBit k bs h) (omega (arith, long)) ∙ ap (λ n. take k bs ++ replicate n 0) none ∙ append-nil (take k bs) in
    ap (joined k) (pieces-suc k m bs)
    ∙ ap₂ (λ s t. s ++ t) first (joined_pieces_first k m (drop k bs) (All-drop IsBit k bs h) (omega (arith, l, e, length-drop k bs)))
    ∙ sym (take-add k (k * m) bs) ∙ ap (λ n. take n bs) e

-- element p, where m bits are left in all: the number of its bits among these is its own, where it is below 2^63 and has no more bits than are left
element_within : (ns : List ℕ) (m p : ℕ) → 63 * p < m → get_or ns p 0 < 2 ^ 63 → (m < 63 * p + 63 → get_or ns p 0 < 2 ^ (m - 63 * p))
    → number (take 63 (drop (63 * p) (take m (joined 63 ns)))) ≡ get_or ns p 0
element_within ns m p some below last =
    let r : ℕ = m - 63 * p in
    let e : m ≡ 63 * p + r = omega (arith, some) in
    let bs = joined 63 ns in
    let n : ℕ = get_or ns p 0 in
    let left : drop (63 * p) (take m bs) ≡ take r (drop (63 * p) bs) = ap (λ i. drop (63 * p) (take i bs)) e ∙ drop-take (63 * p) r bs in
    ap (λ l. number (take 63 l)) left
    ∙ elim (cases_lt r 63) [
      | inl few ↦
          ap number (take_all 63 (take r (drop (63 * p) bs)) (omega (arith, few, length-take r (drop (63 * p) bs)))) ∙ from_word 63 r p ns (omega (arith, few)) ∙ number-take-bits r 63 n below
          ∙ mod-eq_of_lt (last (omega (arith, few, e)))
      | inr full ↦
          ap number (take-take 63 r (drop (63 * p) bs) (omega (arith, full))) ∙ from_word 63 63 p ns (omega arith) ∙ number-take-bits 63 63 n below ∙ mod-eq_of_lt below
    ]

-- the first of some pieces are as many pieces
first_pieces : (k m n : ℕ) (bs : List ℕ) → m ≤ n → take m (pieces k n bs) ≡ pieces k m bs
first_pieces k zero n bs l = sym (pieces-zero k bs)
first_pieces k (suc m) zero bs l = absurd (omega arith)
first_pieces k (suc m) (suc n) bs l =
    ap (take (suc m)) (pieces-suc k n bs) ∙ ap (λ ns. number (take k bs) ∷ ns) (first_pieces k m n (drop k bs) (omega arith)) ∙ sym (pieces-suc k m bs)

-- so it is the element in its place of those that the first words pack to
repacked_element : (elements : List F) (n p : ℕ) → 64 * (n + 1) ≤ 63 * length elements → 63 * p < 64 * (n + 1)
    → Elements.number (get_or elements p nought) < 2 ^ 63 → (64 * (n + 1) < 63 * p + 63 → Elements.number (get_or elements p nought) < 2 ^ (64 * (n + 1) - 63 * p))
    → repacked_at elements n p ≡ get_or elements p nought
repacked_element elements n p within some below last =
    let ns : List ℕ = map Elements.number elements in
    let x : F = get_or elements p nought in
    let at : get_or ns p 0 ≡ Elements.number x = get_or-map Elements.number elements p nought in
    let all : length (joined 63 ns) ≡ 63 * length elements = length-joined 63 ns ∙ ap (λ m. 63 * m) (length-map elements Elements.number) in
    let enough : n + 1 ≤ piece_count 64 (length (joined 63 ns)) = omega (arith, within, all) in
    element_bits_at (first_words n elements) p
    ∙ ap (λ bs. Elements.residue (number (take 63 (drop (63 * p) bs))))
    (ap (joined 64) (first_pieces 64 (n + 1) (piece_count 64 (length (joined 63 ns))) (joined 63 ns) enough)
    ∙ joined_pieces_first 64 (n + 1) (joined 63 ns) (joined-are_bits 63 ns) (omega (arith, within, all)))
    ∙ ap Elements.residue (element_within ns (64 * (n + 1)) p some (rw at below) (λ l. rw at (last l)) ∙ at)
    ∙ residue-number x

-- an element that words pack to has no more bits than are left for it
pub packed_below : (words : List ℕ) (e k : ℕ) → k ≤ 63 → length (take 63 (drop (63 * e) (joined 64 words))) ≤ k → Elements.number (get_or (elements_of words) e nought) < 2 ^ k
packed_below words e k most few =
    let bs : List ℕ = take 63 (drop (63 * e) (joined 64 words)) in
    let small : number bs < 2 ^ k = number_below k bs (All-take IsBit 63 (drop (63 * e) (joined 64 words)) (All-drop IsBit (63 * e) (joined 64 words) (joined-are_bits 64 words))) few in
    let more : 2 ^ k ≤ 2 ^ 63 = pow-le-pow_right {n = 2} (lit< tt) most in
    let large : 2 ^ 63 < P = lit< tt in
    let fits : number bs < P = omega (arith, small, more, large) in
    omega (arith, small, ap Elements.number (element_bits_at words e), mod-eq_of_lt fits)

-- elements of which all but the last are below 2^63, and the last has no more bits than are left, are those that the first words pack to
pub repacked_below : (elements : List F) (n filled : ℕ) → filled ≡ n + 1 + div_ceil (n + 1) 63 → filled ≤ length elements
    → All (λ x. Elements.number x < 2 ^ 63) (take (filled - 1) elements) → Elements.number (get_or elements (filled - 1) nought) < 2 ^ (n % 63 + 1) → AreRepacked elements n filled
repacked_below elements n filled count within below last k l = grind (arith, cases_lt, length-take, get_or-take, repacked_element, pow-le-pow_right)
