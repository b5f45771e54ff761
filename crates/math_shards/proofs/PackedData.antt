-- Data packed into elements, and unpacked with whatever elements follow.
use Rattle.std.proofs.Common.{◌≡◌, ◌∙◌, ℕ, ◌-◌, ◌*◌, ◌<◌, ◌^◌, List, ◌++◌, length, replicate, ap, lit<, append_assoc}
use Rattle.std.proofs.lemmas.List.Elements.{All-cons}
use Rattle.std.specs.List.{All}
use Rattle.math_numbers.specs.Bits.{joined, piece_count, cut}
use Rattle.math_numbers.proofs.BitLists.{joined-are_bits}
use Rattle.math_numbers.proofs.BitPieces.{joined-cut, cut-joined}
use Rattle.math_fields.specs.Elements.{residue}
use Rattle.math_fields.specs.Packing.{word_bits, element_bits, elements_of, words_of}
use Rattle.math_fields.specs.declared.goldilocks.F.{F}
use Rattle.math_fields.proofs.BitFronts.{pieces_below}
use Rattle.math_fields.proofs.Packing.{map-number-residue, element_bits-append}
use Rattle.math_splitting.specs.Shards.{counted, elements_for, with_zeros}

-- packed words, whatever elements follow, unpack to these words and further ones
words_stand : (words : List ℕ) (others : List F) → All (λ word. word < 2 ^ 64) words → (rest : List ℕ) × (words_of (elements_of words ++ others) ≡ words ++ rest)
words_stand words others h =
    let bs : List ℕ = word_bits words in
    let padding : List ℕ = replicate (63 * piece_count 63 (length bs) - length bs) 0 in
    let packed : element_bits (elements_of words) ≡ bs ++ padding =
    ap (joined 63) (map-number-residue (cut 63 bs) (pieces_below 63 (piece_count 63 (length bs)) bs (joined-are_bits 64 words))) ∙ joined-cut 63 bs (lit< tt) (joined-are_bits 64 words) in (
      cut 64 (padding ++ element_bits others),
      ap (cut 64) (element_bits-append (elements_of words) others ∙ ap (λ l. l ++ element_bits others) packed ∙ append_assoc bs padding (element_bits others))
          ∙ cut-joined 64 (lit< tt) words (padding ++ element_bits others) h,
    )

-- what the elements of data, filled up with zeros, unpack to begins with the number of the data and the data
pub data_stand : (n : ℕ) (words : List ℕ) → All (λ word. word < 2 ^ 64) words → length words < 2 ^ 64
    → (rest : List ℕ) × (words_of (with_zeros n (elements_for words)) ≡ counted words ++ rest)
data_stand n words h few = words_stand (counted words) (replicate (n - length (elements_for words)) (residue 0)) (All-cons (λ word. word < 2 ^ 64) (length words) words few h)
