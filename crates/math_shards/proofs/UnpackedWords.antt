-- The words that elements unpack to, each from two elements, and elements that the first of these words pack to again.
use Rattle.std.proofs.Common.{◌≡◌, ◌∙◌, ℕ, suc, ◌+◌, ◌-◌, ◌*◌, ◌/◌, ◌%◌, ◌^◌, ◌<◌, ◌≤◌, bit_or, List, [], ◌∷◌, ◌++◌, length, map, take, drop, get_or, replicate, sym, ap, ap₂, subst, add_comm, arith, lit<, mod-eq_of_lt}
use Rattle.std.specs.Int.{div_ceil}
use Rattle.std.specs.List.{All}
use Rattle.std.proofs.Math.ListN.{get_or-append, get_or-map}
use Rattle.std.proofs.Math.Nat.{mod-lt, pow-le-pow_right}
use Rattle.std.proofs.Math.Seq.{drop-append_seam, take-append_seam}
use Rattle.std.proofs.lemmas.List.{ext_get_or, get_or_append_left, get_or_default, get_or-replicate, get_or-take, length-append, length-drop, length-replicate, length-take, length-take-le, take-append-drop}
use Rattle.std.proofs.lemmas.List.Elements.{All-drop, All-take}
use Rattle.std.proofs.lemmas.Nat.{or_comm, or_mod, or_shifted, pow_pos, shr_below}
use Rattle.math_numbers.specs.Bits as Bits
use Rattle.math_numbers.specs.Bits.{bits, joined}
use Rattle.math_numbers.proofs.BitLists.{append_below, bits-append, bits-mod, joined-are_bits, length-joined}
use Rattle.math_fields.specs.declared.goldilocks.F.{F}
use Rattle.math_fields.specs.Elements.{number, same}
use Rattle.math_fields.specs.Packing.{elements_of, words_of}
use Rattle.math_fields.proofs.BitFronts.{drop-bits, number-take-bits, pieces_below}
use Rattle.math_fields.proofs.ElementNumbers.{same_number}
use Rattle.math_fields.proofs.Packing.{length-words_of}
use Rattle.math_transforms.proofs.WrittenRows.{part-read}
use Rattle.math_shards.specs.Fitting.{AreDataOf}
use Rattle.math_splitting.specs.Shards.{counted, elements_for, width_for, with_zeros}
use Rattle.math_shards.specs.Unpacking.{AreRepacked, AreUnpacked, first_words, word_between}
use Rattle.math_shards.proofs.JoinedRows.{width_of_data}
use Rattle.math_splitting.proofs.LaidOutData.{zeros_alone}
use Rattle.math_shards.proofs.PackedData.{data_stand}
use Rattle.math_splitting.proofs.PackedWords.{counted-behind, cut_at, from_between}
use Rattle.math_shards.proofs.RepackedElements.{packed_below}
use Rattle.math_splitting.proofs.SameCells.{nought}
use Rattle.math_splitting.proofs.StripSizes.{count_elements, width_of_words}

-- A word from two elements.

-- a number of t bits and a number that stands above these bits, joined by `or`, are their sum, as far as 64 bits go
or_both : (v w t : ℕ) → v < 2 ^ t → t ≤ 63 → bit_or v (w * 2 ^ t % 2 ^ 64) ≡ (v + w * 2 ^ t) % 2 ^ 64
or_both v w t small few =
    let most : 2 ^ t ≤ 2 ^ 63 = pow-le-pow_right (lit< tt) few in
    let low : v % 2 ^ 64 ≡ v = mod-eq_of_lt (omega arith) in
    or_comm v (w * 2 ^ t % 2 ^ 64) ∙ ap (bit_or (w * 2 ^ t % 2 ^ 64)) (sym low) ∙ sym (or_mod (w * 2 ^ t) v 64)
    ∙ ap (λ n. n % 2 ^ 64) (or_shifted w t v small ∙ add_comm (w * 2 ^ t) v)

-- the bits of a number from bit s to bit 62 are those of its remainder by 2^63
high_bits : (x s : ℕ) → bits (63 - s) (x % 2 ^ 63 / 2 ^ s) ≡ bits (63 - s) (x / 2 ^ s)
high_bits x s = sym (drop-bits s 63 (x % 2 ^ 63)) ∙ ap (drop s) (bits-mod 63 x) ∙ drop-bits s 63 x

-- the number that the first 64 of t bits of one number and 63 bits of another write
first_word : (v y t : ℕ) → v < 2 ^ t → (v + y % 2 ^ 63 * 2 ^ t) % 2 ^ 64 ≡ Bits.number (take 64 (bits t v ++ bits 63 y))
first_word v y t small =
    let low = y % 2 ^ 63 in
    let below : low < 2 ^ 63 = mod-lt y (pow_pos 63) in
    sym (number-take-bits 64 (t + 63) (v + low * 2 ^ t) (append_below t 63 v low small below)) ∙ ap (λ l. Bits.number (take 64 l)) (sym (bits-append t 63 v low small))
    ∙ ap (λ l. Bits.number (take 64 (bits t v ++ l))) (bits-mod 63 y)

-- the 63 lowest bits of two numbers, shifted and joined by `or`
both_shifted : (x y s : ℕ) → s < 63 → bit_or (x % 2 ^ 63 / 2 ^ s) (y % 2 ^ 63 * 2 ^ (63 - s) % 2 ^ 64) ≡ Bits.number (take 64 (bits (63 - s) (x / 2 ^ s) ++ bits 63 y))
both_shifted x y s few =
    let t : ℕ = 63 - s in
    let whole : 63 ≡ t + s = omega arith in
    let v : ℕ = x % 2 ^ 63 / 2 ^ s in
    let fits : x % 2 ^ 63 < 2 ^ (t + s) = subst (λ n. x % 2 ^ 63 < 2 ^ n) whole (mod-lt x (pow_pos 63)) in
    let small : v < 2 ^ t = shr_below (x % 2 ^ 63) t s fits in
    or_both v (y % 2 ^ 63) t small (omega arith) ∙ first_word v y t small ∙ ap (λ l. Bits.number (take 64 (l ++ bits 63 y))) (high_bits x s)

-- the number of the element in a place
number_at : (elements : List F) (i : ℕ) → get_or (map number elements) i 0 ≡ number (get_or elements i nought)
number_at elements i = get_or-map number elements i nought

-- a word that elements unpack to is made of the bits of two of them
pub word_from_elements : (elements : List F) (i : ℕ)
    → bit_or (number (get_or elements (i + i / 63) nought) % 2 ^ 63 / 2 ^ (i % 63)) (number (get_or elements (i + i / 63 + 1) nought) % 2 ^ 63 * 2 ^ (63 - i % 63) % 2 ^ 64)
    ≡ get_or (words_of elements) i 0
word_from_elements elements i =
    let q : ℕ = i + i / 63 in
    let s : ℕ = i % 63 in
    let ns : List ℕ = map number elements in
    let at : 64 * i ≡ 63 * q + s = omega arith in
    both_shifted (number (get_or elements q nought)) (number (get_or elements (q + 1) nought)) s (omega arith)
    ∙ ap₂ (λ x y. Bits.number (take 64 (bits (63 - s) (x / 2 ^ s) ++ bits 63 y))) (sym (number_at elements q)) (sym (number_at elements (q + 1)))
    ∙ sym (from_between 63 64 q s (63 - s) ns (omega arith) (omega arith))
    ∙ ap (λ n. Bits.number (take 64 (drop n (joined 63 ns)))) (sym at)
    ∙ sym (cut_at 64 (joined 63 ns) i (lit< tt))

-- two elements that lie one after the other, from the one on in which the run begins, give each word of a run of 63
pub run_unpacked : (elements : List F) (first m k : ℕ) → first % 63 + k < 63 → k + 1 < m
    → word_between (get_or (take m (drop (first + first / 63) elements)) k nought) (get_or (take m (drop (first + first / 63) elements)) (k + 1) nought) (first % 63 + k)
    ≡ get_or (words_of elements) (first + k) 0
run_unpacked elements first m k run few =
    let from = first + first / 63 in
    let i = first + k in
    let taken : first % 63 + k ≡ i % 63 = omega (arith, run) in
    let at : from + k ≡ i + i / 63 = omega (arith, run) in
    let after : from + (k + 1) ≡ i + i / 63 + 1 = omega (arith, run) in
    let here : get_or (take m (drop from elements)) k nought ≡ get_or elements (i + i / 63) nought =
    part-read nought elements from m k (omega (arith, few)) ∙ ap (λ p. get_or elements p nought) at in
    let next : get_or (take m (drop from elements)) (k + 1) nought ≡ get_or elements (i + i / 63 + 1) nought =
    part-read nought elements from m (k + 1) few ∙ ap (λ p. get_or elements p nought) after in
    ap₂ (λ x y. word_between x y (first % 63 + k)) here next
    ∙ ap (λ t. word_between (get_or elements (i + i / 63) nought) (get_or elements (i + i / 63 + 1) nought) t) taken
    ∙ word_from_elements elements i

-- Elements that are those of data.

-- a first word that says how many words follow, and so many words behind it
counted_front : (words : List ℕ) (n : ℕ) → n ≡ get_or words 0 0 → n + 1 ≤ length words → counted (take n (drop 1 words)) ≡ take (n + 1) words
counted_front [] n e l = absurd (omega arith)
counted_front (w ∷ words) n e l =
    let long : length (take n words) ≡ n = length-take-le n words (omega arith) in
    let s : suc n ≡ n + 1 = omega arith in
    ap (λ m. m ∷ take n words) (long ∙ e) ∙ ap (λ m. take m (w ∷ words)) s

-- elements that begin with those packed, place by place, and are zero behind them
front_and_zeros : (elements packed : List F) (n : ℕ) → length packed ≡ n → n ≤ length elements → ((k : ℕ) → k < n → same (get_or elements k nought) (get_or packed k nought))
    → All (λ x. same x nought) (drop n elements) → elements ≡ with_zeros (length elements) packed
front_and_zeros elements packed n long within equal zeros =
    let taken : length (take n elements) ≡ n = length-take-le n elements within in
    let front : take n elements ≡ packed =
    ext_get_or nought (take n elements) packed (taken ∙ sym long)
    (λ k l. let below : k < n = omega (arith, l, taken) in get_or-take n elements k nought below ∙ same_number (get_or elements k nought) (get_or packed k nought) (equal k below)) in
    let left : length (drop n elements) ≡ length elements - length packed = omega (arith, length-drop n elements, long) in
    sym (take-append-drop n elements) ∙ ap₂ (λ xs ys. xs ++ ys) front (zeros_alone (drop n elements) zeros ∙ ap (λ m. replicate m nought) left)

-- the elements that n + 1 words fill have bits for as many words
enough_words : (elements : List F) (n : ℕ) → n + 1 + div_ceil (n + 1) 63 ≤ length elements → n + 1 ≤ length (words_of elements)
enough_words elements n few = omega (arith, few, length-words_of elements)

-- each word that elements unpack to is below 2^64
words_below : (elements : List F) → All (λ word. word < 2 ^ 64) (words_of elements)
words_below elements = grind (arith, pieces_below, joined-are_bits)

-- rows of the width that n elements need have room for them
filled_within : (n min width size : ℕ) → 1 ≤ min → div_ceil n min ≡ width → size ≡ min * width → n ≤ size
filled_within n min width size some wide e = grind arith

-- where the first word says how many words follow, the first elements are what it and these pack to, and the others are zero, the elements are those of data
pub data_of_repacked : (elements : List F) (n filled min width : ℕ) → 1 ≤ min → length elements ≡ min * width → n < 2 ^ 64 → n ≡ get_or (words_of elements) 0 0
    → filled ≡ n + 1 + div_ceil (n + 1) 63 → div_ceil filled min ≡ width → AreRepacked elements n filled → All (λ x. same x nought) (drop filled elements)
    → (words : List ℕ) × (length words ≡ n) × AreDataOf words min elements
data_of_repacked elements n filled min width some size few first full wide equal zeros =
    let within : filled ≤ length elements = filled_within filled min width (length elements) some wide size in
    let enough : n + 1 ≤ length (words_of elements) = enough_words elements n (omega (arith, within, full)) in
    let words : List ℕ = take n (drop 1 (words_of elements)) in
    let long : length words ≡ n = length-take-le n (drop 1 (words_of elements)) (omega (arith, enough, length-drop 1 (words_of elements))) in
    let packed : elements_for words ≡ elements_of (first_words n elements) = ap elements_of (counted_front (words_of elements) n first enough) in
    let count : length (elements_of (first_words n elements)) ≡ filled = sym (ap length packed) ∙ count_elements words ∙ ap (λ m. m + 1 + div_ceil (m + 1) 63) long ∙ sym full in
    let due : width ≡ width_for min words = sym wide ∙ ap (λ m. div_ceil m min) full ∙ ap (λ m. div_ceil (m + 1 + div_ceil (m + 1) 63) min) (sym long) ∙ width_of_words min words some in (
      words,
      long,
      record {
        each_word = All-take (λ word. word < 2 ^ 64) n (drop 1 (words_of elements)) (All-drop (λ word. word < 2 ^ 64) 1 (words_of elements) (words_below elements));
        few = subst (λ m. m < 2 ^ 64) (sym long) few;
        packed = front_and_zeros elements (elements_of (first_words n elements)) filled count within equal zeros
            ∙ ap₂ with_zeros (size ∙ ap (λ m. min * m) due) (sym packed);
      },
    )

-- elements that the first words pack to again are below 2^63, and the last has no more bits than are left for it
pub below_of_repacked : (elements : List F) (n filled : ℕ) → filled ≡ n + 1 + div_ceil (n + 1) 63 → filled ≤ length elements → AreRepacked elements n filled
    → All (λ x. number x < 2 ^ 63) (take (filled - 1) elements) × (number (get_or elements (filled - 1) nought) < 2 ^ (n % 63 + 1))
below_of_repacked elements n filled count within again =
    let ws : List ℕ = first_words n elements in
    let many : length ws ≡ n + 1 = length-take-le (n + 1) (words_of elements) (enough_words elements n (omega (arith, count, within))) in
    let all : length (joined 64 ws) ≡ 64 * (n + 1) = length-joined 64 ws ∙ ap (λ m. 64 * m) many in
    let few : n % 63 + 1 ≤ 63 = omega arith in
    let rest : List ℕ = drop (63 * (filled - 1)) (joined 64 ws) in
    let left : length (take 63 rest) ≤ n % 63 + 1 = omega (arith, length-take 63 rest, length-drop (63 * (filled - 1)) (joined 64 ws), all, count) in (
      λ k d l.
          let early : k < filled - 1 = omega (arith, l, length-take (filled - 1) elements) in
          let there : k < length elements = omega (arith, early, within) in
          let at : get_or (take (filled - 1) elements) k d ≡ get_or elements k nought = get_or-take (filled - 1) elements k d early ∙ get_or_default elements k d nought there in
          omega (arith, ap number at, again k (omega (arith, early)), packed_below ws k 63 (omega arith) (omega (arith, length-take 63 (drop (63 * k) (joined 64 ws))))),
      omega (arith, again (filled - 1) (omega (arith, count)), packed_below ws (filled - 1) (n % 63 + 1) few left),
    )

-- the first word of the elements of data says how many words follow; the first elements are what it and these pack to, and the others are zero
pub record AreMarked (elements : List F) (n filled min width : ℕ) : Type 0 where
  pub room : n < length elements
  pub wide : div_ceil filled min ≡ width
  pub again : AreRepacked elements n filled
  pub zeros : All (λ x. same x nought) (drop filled elements)

pub marked_of_data : (elements : List F) (words : List ℕ) (n filled min width : ℕ) → 1 ≤ min → length elements ≡ min * width → n ≡ get_or (words_of elements) 0 0
    → filled ≡ n + 1 + div_ceil (n + 1) 63 → AreDataOf words min elements → AreMarked elements n filled min width
marked_of_data elements words n filled min width some size first full h =
    let packed : List F = elements_for words in
    let stand = data_stand (min * width_for min words) words h.each_word h.few in
    let split : words_of elements ≡ counted words ++ stand.0 = ap words_of h.packed ∙ stand.1 in
    let is : n ≡ length words = first ∙ ap (λ (ws : List ℕ). get_or ws 0 0) split in
    let all : filled ≡ length words + 1 + div_ceil (length words + 1) 63 = full ∙ ap (λ m. m + 1 + div_ceil (m + 1) 63) is in
    let count : length packed ≡ filled = count_elements words ∙ sym all in
    let zeros : List F = replicate (min * width_for min words - length packed) nought in
    let enough : filled ≤ length elements = omega (arith, count, ap length h.packed, length-append packed zeros) in
    let firsts : first_words n elements ≡ counted words =
    ap (take (n + 1)) split ∙ ap (λ m. take m (counted words ++ stand.0)) (let e : n + 1 ≡ length (counted words) = omega (arith, is) in e) ∙ take-append_seam (counted words) stand.0 in
    record {
      room = omega (arith, enough, full);
      wide = ap (λ m. div_ceil m min) all ∙ width_of_words min words some ∙ sym (width_of_data words min width elements some size h);
      again = λ k l.
          ap (λ (xs : List F). number (get_or xs k nought)) h.packed ∙ ap number (get_or_append_left packed zeros nought k (omega (arith, l, count)))
          ∙ sym (ap (λ (ws : List ℕ). number (get_or (elements_of ws) k nought)) firsts);
      zeros = subst (All (λ x. same x nought)) (sym (ap₂ (λ m (xs : List F). drop m xs) (sym count) h.packed ∙ drop-append_seam packed zeros))
          (λ k d l. ap number (get_or-replicate (min * width_for min words - length packed) k nought d (omega (arith, l, length-replicate (min * width_for min words - length packed) nought))));
    }

-- The words of data.

-- behind the first one, the words that the elements of data unpack to are the data
pub word_of_data : (words : List ℕ) (min : ℕ) (elements : List F) → AreDataOf words min elements → (k : ℕ) → k < length words → get_or (words_of elements) (k + 1) 0 ≡ get_or words k 0
word_of_data words min elements h k within =
    let stand = data_stand (min * width_for min words) words h.each_word h.few in
    let behind : k + 1 - 1 ≡ k = omega arith in
    ap (λ (ws : List ℕ). get_or ws (k + 1) 0) (ap words_of h.packed ∙ stand.1) ∙ get_or-append (counted words) stand.0 0 (k + 1) (omega arith)
    ∙ counted-behind words (k + 1) (omega arith) ∙ ap (λ m. get_or words m 0) behind

-- words in a row of those that the elements unpack to, behind the first one, are words of the data
pub written_data : (words out : List ℕ) (min first : ℕ) (elements : List F) → first + length out ≤ length words → AreDataOf words min elements → AreUnpacked elements (first + 1) out
    → out ≡ take (length out) (drop first words)
written_data words out min first elements within h each =
    let n = length out in
    ext_get_or 0 out (take n (drop first words)) (sym (length-take-le n (drop first words) (omega (arith, within, length-drop first words))))
    (λ k l. each k l ∙ ap (λ m. get_or (words_of elements) m 0) (let e : first + 1 + k ≡ first + k + 1 = omega arith in e)
    ∙ word_of_data words min elements h (first + k) (omega (arith, l, within)) ∙ sym (part-read 0 words first n k l))
