-- Words packed into elements, and elements unpacked to words.
use Rattle.std.proofs.Common.{◌≡◌, ℕ, ◌*◌, ◌%◌, ◌<◌, ◌^◌, List, [], ◌∷◌, ◌++◌, take, drop, length, map, ◌≤◌, refl, sym, ap, ◌∙◌, arith, mod-eq_of_lt, lit<}
use Rattle.std.proofs.Math.Nat.{pow-le-pow_right}
use Rattle.std.proofs.lemmas.List.{map-append, length-map, drop_all}
use Rattle.std.proofs.lemmas.List.Elements.{All-head, All-tail}
use Rattle.std.specs.List.{All}
use Rattle.math_numbers.specs.Bits as Bits
use Rattle.math_numbers.specs.Bits.{bits, bits-zero, joined, piece_count, cut, repacked, zero_word_unless}
use Rattle.math_numbers.specs.Goldilocks.{P}
use Rattle.math_numbers.proofs.BitLists.{length-bits, joined-append, joined-are_bits}
use Rattle.math_numbers.proofs.BitPieces.{cut-nil, length-repacked, words_come_back}
use Rattle.math_fields.specs.Elements.{number, residue}
use Rattle.math_fields.specs.Packing.{word_bits, element_bits, elements_of_bits, elements_of, words_of, waiting_bits}
use Rattle.math_fields.specs.declared.goldilocks.F.{F}
use Rattle.math_fields.specs.declared.goldilocks.packing.WaitingBits.{WaitingBits}
use Rattle.math_fields.proofs.ElementNumbers.{residue-number}
use Rattle.math_fields.proofs.BitFronts.{cut-waiting, number-take-bits, pieces_below}

-- numbers below 2 ^ 63 are the numbers of their residues
pub map-number-residue : (ns : List ℕ) → All (λ n. n < 2 ^ 63) ns → map number (map residue ns) ≡ ns
map-number-residue [] h = refl
map-number-residue (n ∷ ns) h =
    let below : n < 2 ^ 63 = All-head (λ n. n < 2 ^ 63) n ns h in
    let first : n % P ≡ n = omega arith in
    ap (λ t. t ∷ map number (map residue ns)) first ∙ ap (λ l. n ∷ l) (map-number-residue ns (All-tail (λ n. n < 2 ^ 63) n ns h))

pub element_bits-append : (xs ys : List F) → element_bits (xs ++ ys) ≡ element_bits xs ++ element_bits ys
element_bits-append xs ys = ap (joined 63) (map-append number xs ys) ∙ joined-append 63 (map number xs) (map number ys)

pub elements_of_bits-nil : elements_of_bits [] ≡ []
elements_of_bits-nil = ap (map residue) (cut-nil 63 (lit< tt))

-- the first element that bits pack to, where more follow only once 63 of them wait
pub elements_of_bits-waiting : (waiting more : List ℕ) (x : F) → number x ≡ Bits.number (take 63 waiting) → 0 < length waiting → (length waiting < 63 → more ≡ [])
    → elements_of_bits (waiting ++ more) ≡ x ∷ elements_of_bits (drop 63 waiting ++ more)
elements_of_bits-waiting waiting more x e some last =
    ap (map residue) (cut-waiting 63 waiting more (lit< tt) some last) ∙ ap (λ n. residue n ∷ elements_of_bits (drop 63 waiting ++ more)) (sym e)
    ∙ ap (λ y. y ∷ elements_of_bits (drop 63 waiting ++ more)) (residue-number x)

pub length-elements_of : (words : List ℕ) → length (elements_of words) ≡ piece_count 63 (64 * length words)
length-elements_of words = length-map (repacked 64 63 words) residue ∙ length-repacked 64 63 words

pub length-words_of : (elements : List F) → length (words_of elements) ≡ piece_count 64 (63 * length elements)
length-words_of elements = length-repacked 63 64 (map number elements) ∙ ap (λ n. piece_count 64 (63 * n)) (length-map elements number)

pub words_of-elements_of : (words : List ℕ) → All (λ word. word < 2 ^ 64) words → words_of (elements_of words) ≡ words ++ zero_word_unless (length words % 63)
words_of-elements_of words h =
    ap (repacked 63 64) (map-number-residue (repacked 64 63 words) (pieces_below 63 (piece_count 63 (length (word_bits words))) (word_bits words) (joined-are_bits 64 words)))
    ∙ words_come_back words h

pub waiting_bits-none : (w : WaitingBits) → w.count ≡ 0 → waiting_bits w ≡ []
waiting_bits-none w e = ap (λ n. bits n w.value) e ∙ bits-zero w.value

-- at most k bits that wait write a number below 2 ^ k
pub waiting-below : (k : ℕ) (w : WaitingBits) → w.count ≤ k → w.value < 2 ^ k
waiting-below k w few = let m : 2 ^ w.count ≤ 2 ^ k = pow-le-pow_right (lit< tt) few in let h : w.value < 2 ^ w.count = w.below in omega arith

-- at most k bits that wait, where more follow only if there are k of them, write the first piece
pub cut-last : (k : ℕ) (w : WaitingBits) (more : List ℕ) → 0 < k → 0 < w.count → w.count ≤ k → (w.count < k → more ≡ []) → cut k (waiting_bits w ++ more) ≡ w.value ∷ cut k more
cut-last k w more positive some few last =
    let long : length (waiting_bits w) ≡ w.count = length-bits w.count w.value in
    cut-waiting k (waiting_bits w) more positive (omega (arith, long)) (λ short. last (omega (arith, long)))
    ∙ ap (λ n. n ∷ cut k (drop k (waiting_bits w) ++ more)) (number-take-bits k w.count w.value w.below ∙ mod-eq_of_lt (waiting-below k w few))
    ∙ ap (λ l. w.value ∷ cut k (l ++ more)) (drop_all k (waiting_bits w) (omega (arith, long)))

pub elements_of_bits-last : (w : WaitingBits) (more : List ℕ) (x : F) → number x ≡ w.value → 0 < w.count → w.count ≤ 63 → (w.count < 63 → more ≡ [])
    → elements_of_bits (waiting_bits w ++ more) ≡ x ∷ elements_of_bits more
elements_of_bits-last w more x e some few last =
    ap (map residue) (cut-last 63 w more (lit< tt) some few last) ∙ ap (λ n. residue n ∷ elements_of_bits more) (sym e) ∙ ap (λ y. y ∷ elements_of_bits more) (residue-number x)
