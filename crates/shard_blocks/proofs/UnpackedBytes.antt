-- The bytes that are unpacked from words are those of the block, where the words are those of one.
use Rattle.std.proofs.Common.{◌≡◌, ℕ, ◌+◌, ◌-◌, ◌*◌, ◌^◌, ◌<◌, ◌≤◌, List, [], ◌∷◌, ◌++◌, length, take, drop, replicate, get_or, refl, sym, ◌∙◌, ap, ap₂, subst, lit<, arith}
use Rattle.std.proofs.Math.Seq.{take-add, take-append_seam}
use Rattle.std.proofs.lemmas.List.{append-nil, drop_at, drop-drop, length-drop, length-take-le, take_all, take_at, take-append-drop, take_more}
use Rattle.std.proofs.lemmas.List.Concat.{flat_map-append}
use Rattle.std.proofs.lemmas.List.Elements.{All-append, All-head, All-replicate, All-tail, All-take}
use Rattle.std.specs.Int.{div_ceil, to_le_bytes, w64}
use Rattle.std.specs.List.{All, flat_map}
use Rattle.math_numbers.specs.Bits.{cut, joined, piece_count}
use Rattle.math_numbers.proofs.BitLists.{joined-append, joined-are_bits, length-joined}
use Rattle.math_numbers.proofs.BitPieces.{cut-of_joined, joined-cut, length-cut, piece_count-enough, piece_count-least}
use Rattle.shard_blocks.specs.BlockWords.{AreBytes, IsBlockOf, byte_bits, words_of_bytes}
use Rattle.shard_blocks.proofs.WordBytes.{bits_of_all_bytes, bits_of_zeros, unpacked_below, words_of_filled}

-- as many words as hold so many bytes
pub word_count : (n : ℕ) → div_ceil n 8 ≡ piece_count 64 (8 * n)
word_count n = omega arith

-- eight bytes a word
pub length_unpacked : (words : List ℕ) → length (flat_map (to_le_bytes w64) words) ≡ 8 * length words
length_unpacked words =
    let e : 8 * length (flat_map (to_le_bytes w64) words) ≡ 64 * length words =
    sym (length-joined 8 (flat_map (to_le_bytes w64) words)) ∙ ap length (bits_of_all_bytes words) ∙ length-joined 64 words in
    omega (arith, e)

zeros_alone : (xs : List ℕ) → All (λ x. x ≡ 0) xs → xs ≡ replicate (length xs) 0
zeros_alone [] h = refl
zeros_alone (x ∷ xs) h = ap₂ (λ y ys. y ∷ ys) (All-head (λ x. x ≡ 0) x xs h) (zeros_alone xs (All-tail (λ x. x ≡ 0) x xs h))

-- the number of bytes is at most that of the unpacked ones
pub count_within : (count : ℕ) (words : List ℕ) → length words ≡ div_ceil count 8 → count ≤ length (flat_map (to_le_bytes w64) words)
count_within count words l = omega (arith, l, word_count count, length_unpacked words, piece_count-enough 64 (8 * count) (lit< tt))

-- the bytes of the words before the last one, and those of the last one
unpacked_last : (k : ℕ) (packed : List ℕ) → length packed ≡ k + 1 → flat_map (to_le_bytes w64) packed ≡ flat_map (to_le_bytes w64) (take k packed) ++ to_le_bytes w64 (get_or packed k 0)
unpacked_last k packed many =
    let whole : take (k + 1) packed ≡ packed = take_all (k + 1) packed (omega (arith, many)) in
    ap (flat_map (to_le_bytes w64)) (sym whole ∙ take_more packed k 0 (omega (arith, many))) ∙ flat_map-append (to_le_bytes w64) (take k packed) (get_or packed k 0 ∷ [])
    ∙ ap (λ bytes. flat_map (to_le_bytes w64) (take k packed) ++ bytes) (append-nil (to_le_bytes w64 (get_or packed k 0)))

length_before : (k : ℕ) (packed : List ℕ) → length packed ≡ k + 1 → length (flat_map (to_le_bytes w64) (take k packed)) ≡ 8 * k
length_before k packed many = length_unpacked (take k packed) ∙ ap (λ n. 8 * n) (length-take-le k packed (omega (arith, many)))

-- what follows so many bytes, of which some are in the last word, is in the last word
pub drop_to_last : (k left : ℕ) (packed : List ℕ) → length packed ≡ k + 1 → drop (8 * k + left) (flat_map (to_le_bytes w64) packed) ≡ drop left (to_le_bytes w64 (get_or packed k 0))
drop_to_last k left packed many =
    let front = flat_map (to_le_bytes w64) (take k packed) in
    let last = to_le_bytes w64 (get_or packed k 0) in
    ap (drop (8 * k + left)) (unpacked_last k packed many) ∙ sym (drop-drop left (8 * k) (front ++ last)) ∙ ap (drop left) (drop_at front last (8 * k) (length_before k packed many))

-- so many bytes are those of the words before the last one, and then some of the last one
pub take_to_last : (k left : ℕ) (packed : List ℕ) → length packed ≡ k + 1
    → take (8 * k + left) (flat_map (to_le_bytes w64) packed) ≡ flat_map (to_le_bytes w64) (take k packed) ++ take left (to_le_bytes w64 (get_or packed k 0))
take_to_last k left packed many =
    let front = flat_map (to_le_bytes w64) (take k packed) in
    let last = to_le_bytes w64 (get_or packed k 0) in
    let long = length_before k packed many in
    ap (take (8 * k + left)) (unpacked_last k packed many) ∙ take-add (8 * k) left (front ++ last)
    ∙ ap₂ (λ xs ys. xs ++ take left ys) (take_at front last (8 * k) long) (drop_at front last (8 * k) long)

-- where nothing but zeros follows so many bytes, the words are those of the block of these bytes
pub block_of_unpacked : (count : ℕ) (words bytes : List ℕ) → All (λ word. word < 2 ^ 64) words → count < 2 ^ 64
    → length words ≡ div_ceil count 8 → bytes ≡ flat_map (to_le_bytes w64) words → All (λ x. x ≡ 0) (drop count bytes) → IsBlockOf (count ∷ words) (take count bytes)
block_of_unpacked count words bytes w few l e zeros =
    let within : count ≤ length bytes = rw e (count_within count words l) in
    let long : length bytes ≡ 8 * length words = ap length e ∙ length_unpacked words in
    let least : 64 * piece_count 64 (8 * count) < 8 * count + 64 = piece_count-least 64 (8 * count) (lit< tt) in
    let z : ℕ = length bytes - count in
    let front = take count bytes in
    let counted : length front ≡ count = length-take-le count bytes within in
    let parts : bytes ≡ front ++ replicate z 0 =
    sym (take-append-drop count bytes) ∙ ap (λ t. front ++ t) (zeros_alone (drop count bytes) zeros ∙ ap (λ n. replicate n 0) (length-drop count bytes)) in
    let filled : joined 64 words ≡ byte_bits front ++ replicate (8 * z) 0 =
    sym (bits_of_all_bytes words) ∙ ap (joined 8) (sym e ∙ parts) ∙ joined-append 8 front (replicate z 0) ∙ ap (λ t. joined 8 front ++ t) (bits_of_zeros z) in
    let packed : words ≡ cut 64 (byte_bits front) =
    words_of_filled (byte_bits front) words (8 * z) (joined-are_bits 8 front) w (omega (arith, long, l, word_count count, least, within)) filled in (
      record { each_byte = All-take (λ byte. byte < 256) count bytes (rw e (unpacked_below words)); few = omega (arith, counted, few) },
      ap₂ (λ n t. n ∷ t) (sym counted) packed,
    )

-- what the words of a block unpack to begins with the block, and goes on with zeros
pub unpacked_of_block : (block words : List ℕ) → AreBytes block → words ≡ cut 64 (byte_bits block)
    → (z : ℕ) × (flat_map (to_le_bytes w64) words ≡ block ++ replicate z 0)
unpacked_of_block block words of e =
    let n = length block in
    let bs = byte_bits block in
    let pieces : ℕ = piece_count 64 (8 * n) in
    let z : ℕ = 8 * pieces - n in
    let long : length bs ≡ 8 * n = length-joined 8 block in
    let enough : 8 * n ≤ 64 * pieces = piece_count-enough 64 (8 * n) (lit< tt) in
    let more : 64 * pieces - 8 * n ≡ 8 * z = omega (arith, enough) in
    let filled : joined 64 words ≡ bs ++ replicate (8 * z) 0 =
    ap (joined 64) e ∙ joined-cut 64 bs (lit< tt) (joined-are_bits 8 block) ∙ ap (λ m. bs ++ replicate (64 * piece_count 64 m - m) 0) long ∙ ap (λ m. bs ++ replicate m 0) more in
    let same : joined 8 (flat_map (to_le_bytes w64) words) ≡ joined 8 (block ++ replicate z 0) =
    bits_of_all_bytes words ∙ filled ∙ ap (λ t. bs ++ t) (sym (bits_of_zeros z)) ∙ sym (joined-append 8 block (replicate z 0)) in
    let whole : All (λ byte. byte < 256) (block ++ replicate z 0) =
    All-append (λ byte. byte < 256) block (replicate z 0) of.each_byte (All-replicate (λ byte. byte < 256) z 0 (lit< tt)) in (
      z,
      sym (cut-of_joined 8 (flat_map (to_le_bytes w64) words) (lit< tt) (unpacked_below words)) ∙ ap (cut 8) same ∙ cut-of_joined 8 (block ++ replicate z 0) (lit< tt) whole,
    )

-- the words of a block are those of one block
pub words_once : (block other : List ℕ) → AreBytes block → AreBytes other → words_of_bytes block ≡ words_of_bytes other → block ≡ other
words_once block other j k e =
    let words = cut 64 (byte_bits block) in
    let count : length block ≡ length other = ap (λ xs. get_or xs 0 0) e in
    let a = unpacked_of_block block words j refl in
    let b = unpacked_of_block other words k (ap (drop 1) e) in
    sym (take-append_seam block (replicate a.0 0)) ∙ ap₂ (λ n xs. take n xs) count (sym a.1 ∙ b.1) ∙ take-append_seam other (replicate b.0 0)

-- as many words follow the first one as hold the bytes
pub block_length : (words packed : List ℕ) (count : ℕ) → words ≡ count ∷ packed → (block : List ℕ) → IsBlockOf words block → length packed ≡ div_ceil count 8
block_length words packed count e block of =
    let q : count ∷ packed ≡ words_of_bytes block = sym e ∙ of.1 in
    let n : count ≡ length block = ap (λ xs. get_or xs 0 0) q in
    let p : length packed ≡ piece_count 64 (8 * length block) = ap (λ xs. length (drop 1 xs)) q ∙ length-cut 64 (byte_bits block) ∙ ap (piece_count 64) (length-joined 8 block) in
    p ∙ ap (λ m. piece_count 64 (8 * m)) (sym n) ∙ sym (word_count count)

-- the block comes first in the unpacked bytes, and then zeros
pub block_in_front : (words packed bytes : List ℕ) (count : ℕ) → words ≡ count ∷ packed → bytes ≡ flat_map (to_le_bytes w64) packed → (block : List ℕ) → IsBlockOf words block
    → (take count bytes ≡ block) × All (λ x. x ≡ 0) (drop count bytes)
block_in_front words packed bytes count e unpacked block of =
    let q : count ∷ packed ≡ words_of_bytes block = sym e ∙ of.1 in
    let n : length block ≡ count = ap (λ xs. get_or xs 0 0) (sym q) in
    let z = unpacked_of_block block packed of.0 (ap (drop 1) q) in
    let parts : bytes ≡ block ++ replicate z.0 0 = unpacked ∙ z.1 in (
      ap₂ (λ m xs. take m xs) (sym n) parts ∙ take-append_seam block (replicate z.0 0),
      subst (All (λ x. x ≡ 0)) (sym (ap (drop count) parts ∙ drop_at block (replicate z.0 0) count n)) (All-replicate (λ x. x ≡ 0) z.0 0 refl),
    )
