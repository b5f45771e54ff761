-- The words that are packed from bytes are those of the block.
use Rattle.std.proofs.Common.{◌≡◌, ℕ, ◌-◌, ◌*◌, ◌/◌, ◌%◌, ◌^◌, ◌<◌, List, [], ◌∷◌, ◌++◌, length, take, drop, map, replicate, sym, ◌∙◌, ap, ap₂, subst, lit<, arith, append-nil, append_assoc, length-append}
use Rattle.std.proofs.lemmas.List.{length-replicate, take_all, take-append-drop}
use Rattle.std.proofs.lemmas.List.Elements.{All-append, All-drop, All-push, All-replicate}
use Rattle.std.specs.Int.{from_le_bytes, w64}
use Rattle.std.specs.List.{All}
use Rattle.std.specs.Simd.{first_chunks}
use Rattle.math_numbers.specs.Bits.{bits, joined}
use Rattle.math_numbers.proofs.BitLists.{joined-append, joined-are_bits}
use Rattle.shard_blocks.specs.BlockWords.{words_of_bytes}
use Rattle.shard_blocks.proofs.WordBytes.{bits_of_chunks, bits_of_word, bits_of_zeros, word_below, words_below, words_of_filled}

-- the words of whole chunks of the bytes
abbrev chunk_words : List ℕ → List ℕ
chunk_words bytes = map (from_le_bytes w64) (first_chunks 8 (length bytes / 8) bytes)

-- where the bytes fill their words
pub packed_whole : (bytes : List ℕ) → All (λ byte. byte < 256) bytes → length bytes % 8 ≡ 0 → length bytes ∷ chunk_words bytes ≡ words_of_bytes bytes
packed_whole bytes h whole =
    let k = length bytes / 8 in
    let all : k * 8 ≡ length bytes = omega (arith, whole) in
    let filled : joined 64 (chunk_words bytes) ≡ joined 8 bytes ++ replicate 0 0 =
    bits_of_chunks k bytes h (omega (arith, all)) ∙ ap (joined 8) (take_all (k * 8) bytes (omega (arith, all))) ∙ sym (append-nil (joined 8 bytes)) in
    ap (λ l. length bytes ∷ l) (words_of_filled (joined 8 bytes) (chunk_words bytes) 0 (joined-are_bits 8 bytes) (words_below k bytes h) (lit< tt) filled)

-- where some are left, which a last word holds with zeros after them
pub packed_rest : (bytes rest : List ℕ) (last : ℕ) → All (λ byte. byte < 256) bytes → 0 < length rest → length rest < 8 → rest ≡ drop (length bytes / 8 * 8) bytes
    → last ≡ from_le_bytes w64 (rest ++ replicate (8 - length rest) 0) → length bytes ∷ (chunk_words bytes ++ last ∷ []) ≡ words_of_bytes bytes
packed_rest bytes rest last h some few r l =
    let k = length bytes / 8 in
    let m : ℕ = 8 - length rest in
    let words = chunk_words bytes in
    let front = take (k * 8) bytes in
    let eight = rest ++ replicate m 0 in
    let rest_bytes : All (λ byte. byte < 256) rest = subst (All (λ byte. byte < 256)) (sym r) (All-drop (λ byte. byte < 256) (k * 8) bytes h) in
    let eight_bytes : All (λ byte. byte < 256) eight = All-append (λ byte. byte < 256) rest (replicate m 0) rest_bytes (All-replicate (λ byte. byte < 256) m 0 (lit< tt)) in
    let long : length eight ≡ 8 = omega (arith, length-append rest (replicate m 0), length-replicate {A = ℕ} m 0) in
    let below : last < 2 ^ 64 = omega (arith, l, word_below eight eight_bytes) in
    let w : All (λ word. word < 2 ^ 64) (words ++ last ∷ []) = All-push (λ word. word < 2 ^ 64) words last (words_below k bytes h) below in
    let parts : front ++ rest ≡ bytes = ap (λ t. front ++ t) r ∙ take-append-drop (k * 8) bytes in
    let lasts : joined 64 (last ∷ []) ≡ joined 8 rest ++ replicate (8 * m) 0 =
    append-nil (bits 64 last) ∙ ap (bits 64) l ∙ bits_of_word eight eight_bytes long ∙ joined-append 8 rest (replicate m 0) ∙ ap (λ t. joined 8 rest ++ t) (bits_of_zeros m) in
    let filled : joined 64 (words ++ last ∷ []) ≡ joined 8 bytes ++ replicate (8 * m) 0 =
    joined-append 64 words (last ∷ []) ∙ ap₂ (λ s t. s ++ t) (bits_of_chunks k bytes h (omega arith)) lasts ∙ sym (append_assoc (joined 8 front) (joined 8 rest) (replicate (8 * m) 0))
    ∙ ap (λ t. t ++ replicate (8 * m) 0) (sym (joined-append 8 front rest) ∙ ap (joined 8) parts) in
    ap (λ t. length bytes ∷ t) (words_of_filled (joined 8 bytes) (words ++ last ∷ []) (8 * m) (joined-are_bits 8 bytes) w (omega (arith, some)) filled)
