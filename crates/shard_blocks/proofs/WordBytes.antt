-- The bits of words and those of their eight bytes, the lowest byte first.
use Rattle.std.proofs.Common.{◌≡◌, ℕ, zero, suc, ◌+◌, ◌-◌, ◌*◌, ◌/◌, ◌%◌, ◌^◌, ◌<◌, ◌≤◌, List, [], ◌∷◌, ◌++◌, length, take, drop, map, replicate, get_or, refl, sym, ◌∙◌, ap, ap₂, subst, inl, inr, lit<, arith, length-append}
use Rattle.std.proofs.Math.Nat.{div-div-eq-div-mul, mod-lt, pow-suc}
use Rattle.std.proofs.Math.Seq.{take-add}
use Rattle.std.proofs.lemmas.Bool.{cases_lt}
use Rattle.std.proofs.lemmas.List.{get_or_past, length-drop, length-replicate, length-take-le, replicate-append-replicate}
use Rattle.std.proofs.lemmas.List.Elements.{All-append, All-cons, All-drop, All-nil, All-take}
use Rattle.std.proofs.lemmas.Nat.{le_bytes_8}
use Rattle.std.specs.Int.{byte_at, bytes_low_first, from_le_bytes, to_le_bytes, w64}
use Rattle.std.specs.List.{All, flat_map}
use Rattle.std.specs.Simd.{first_chunks}
use Rattle.math_numbers.specs.Bits.{IsBit, bits, bits-zero, cut, joined, piece_count}
use Rattle.math_numbers.proofs.BitLists.{bits-add, bits-mod, bits-of_zero, joined-append, length-joined}
use Rattle.math_numbers.proofs.BitPieces.{cut-of_joined, joined-cut, piece_count-enough, piece_count-least}
use Rattle.math_fields.proofs.BitFronts.{pieces_below}

-- the lowest k bytes of n, the lowest first
abbrev low_bytes : ℕ → ℕ → List ℕ
low_bytes zero n = []
low_bytes (suc k) n = n % 256 ∷ low_bytes k (n / 256)

byte_is : (i n : ℕ) → byte_at i n ≡ n / 256 ^ i % 256
byte_is zero n = ap (λ (x : ℕ). x % 256) (let e : n ≡ n / 1 = omega arith in e)
byte_is (suc i) n = refl

bytes_are_low : (i k n : ℕ) → bytes_low_first i k n ≡ low_bytes k (n / 256 ^ i)
bytes_are_low i zero n = refl
bytes_are_low i (suc k) n =
    let next : n / 256 ^ suc i ≡ n / 256 ^ i / 256 = ap (λ (x : ℕ). n / x) (pow-suc 256 i) ∙ sym (div-div-eq-div-mul n (256 ^ i) 256) in
    ap₂ (λ b l. b ∷ l) (byte_is i n) (bytes_are_low (suc i) k n ∙ ap (low_bytes k) next)

bits_of_low : (k n : ℕ) → joined 8 (low_bytes k n) ≡ bits (8 * k) n
bits_of_low zero n = sym (bits-zero n)
bits_of_low (suc k) n =
    let more : 8 + 8 * k ≡ 8 * suc k = omega arith in
    ap₂ (λ s t. s ++ t) (bits-mod 8 n) (bits_of_low k (n / 256)) ∙ sym (bits-add 8 (8 * k) n) ∙ ap (λ m. bits m n) more

-- the bits of the eight bytes of a word are its own
pub bits_of_bytes : (word : ℕ) → joined 8 (to_le_bytes w64 word) ≡ bits 64 word
bits_of_bytes word =
    let whole : word / 1 ≡ word = omega arith in
    ap (joined 8) (bytes_are_low 0 8 word ∙ ap (low_bytes 8) whole) ∙ bits_of_low 8 word

low_below : (k n : ℕ) → All (λ byte. byte < 256) (low_bytes k n)
low_below zero n = All-nil (λ byte. byte < 256)
low_below (suc k) n = All-cons (λ byte. byte < 256) (n % 256) (low_bytes k (n / 256)) (mod-lt n (lit< tt)) (low_below k (n / 256))

-- the bytes of words are below 256
pub unpacked_below : (words : List ℕ) → All (λ byte. byte < 256) (flat_map (to_le_bytes w64) words)
unpacked_below [] = All-nil (λ byte. byte < 256)
unpacked_below (word ∷ words) =
    All-append (λ byte. byte < 256) (to_le_bytes w64 word) (flat_map (to_le_bytes w64) words)
    (subst (All (λ byte. byte < 256)) (sym (bytes_are_low 0 8 word)) (low_below 8 (word / 1))) (unpacked_below words)

-- the bits of the bytes of all words are those of the words
pub bits_of_all_bytes : (words : List ℕ) → joined 8 (flat_map (to_le_bytes w64) words) ≡ joined 64 words
bits_of_all_bytes [] = refl
bits_of_all_bytes (word ∷ words) =
    joined-append 8 (to_le_bytes w64 word) (flat_map (to_le_bytes w64) words) ∙ ap₂ (λ s t. s ++ t) (bits_of_bytes word) (bits_of_all_bytes words)

-- a number past the end of the bytes counts as zero
each_below : (bytes : List ℕ) → All (λ byte. byte < 256) bytes → (i : ℕ) → get_or bytes i 0 < 256
each_below bytes h i =
    elim (cases_lt i (length bytes)) as (λ _. get_or bytes i 0 < 256) [
      | inl there ↦ h i 0 there
      | inr past ↦ rw (get_or_past bytes i 0 past) (lit< tt)
    ]

-- a word that is read from bytes is one
pub word_below : (bytes : List ℕ) → All (λ byte. byte < 256) bytes → from_le_bytes w64 bytes < 2 ^ 64
word_below bytes h =
    let at = each_below bytes h in
    omega (arith, at 0, at 1, at 2, at 3, at 4, at 5, at 6, at 7)

pub words_below : (k : ℕ) (bytes : List ℕ) → All (λ byte. byte < 256) bytes → All (λ word. word < 2 ^ 64) (map (from_le_bytes w64) (first_chunks 8 k bytes))
words_below zero bytes h = All-nil (λ word. word < 2 ^ 64)
words_below (suc k) bytes h =
    All-cons (λ word. word < 2 ^ 64) (from_le_bytes w64 (take 8 bytes)) (map (from_le_bytes w64) (first_chunks 8 k (drop 8 bytes)))
    (word_below (take 8 bytes) (All-take (λ byte. byte < 256) 8 bytes h)) (words_below k (drop 8 bytes) (All-drop (λ byte. byte < 256) 8 bytes h))

-- the bits of a word that is read from eight bytes are theirs
pub bits_of_word : (bytes : List ℕ) → All (λ byte. byte < 256) bytes → length bytes ≡ 8 → bits 64 (from_le_bytes w64 bytes) ≡ joined 8 bytes
bits_of_word bytes h l =
    sym (bits_of_bytes (from_le_bytes w64 bytes)) ∙ ap (joined 8) (le_bytes_8 bytes (from_le_bytes w64 bytes) l (each_below bytes h) refl)

-- the bits of the words that are read from the first chunks of eight bytes are theirs
pub bits_of_chunks : (k : ℕ) (bytes : List ℕ) → All (λ byte. byte < 256) bytes → k * 8 ≤ length bytes
    → joined 64 (map (from_le_bytes w64) (first_chunks 8 k bytes)) ≡ joined 8 (take (k * 8) bytes)
bits_of_chunks zero bytes h l = refl
bits_of_chunks (suc k) bytes h l =
    let more : 8 + k * 8 ≡ suc k * 8 = omega arith in
    let first : length (take 8 bytes) ≡ 8 = length-take-le 8 bytes (omega arith) in
    let rest : k * 8 ≤ length (drop 8 bytes) = simp length-drop (omega arith) in
    ap₂ (λ s t. s ++ t) (bits_of_word (take 8 bytes) (All-take (λ byte. byte < 256) 8 bytes h) first)
    (bits_of_chunks k (drop 8 bytes) (All-drop (λ byte. byte < 256) 8 bytes h) rest)
    ∙ sym (joined-append 8 (take 8 bytes) (take (k * 8) (drop 8 bytes))) ∙ ap (joined 8) (sym (take-add 8 (k * 8) bytes) ∙ ap (λ n. take n bytes) more)

-- the bits of zeros are zeros
pub bits_of_zeros : (n : ℕ) → joined 8 (replicate n 0) ≡ replicate (8 * n) 0
bits_of_zeros zero = refl
bits_of_zeros (suc n) =
    let more : 8 + 8 * n ≡ 8 * suc n = omega arith in
    ap₂ (λ s t. s ++ t) (bits-of_zero 8) (bits_of_zeros n) ∙ replicate-append-replicate 8 (8 * n) 0 ∙ ap (λ m. replicate m 0) more

-- words whose bits are these and then fewer than 64 zeros are the words that these bits write
pub words_of_filled : (bs words : List ℕ) (z : ℕ) → All IsBit bs → All (λ word. word < 2 ^ 64) words → z < 64 → joined 64 words ≡ bs ++ replicate z 0 → words ≡ cut 64 bs
words_of_filled bs words z h w few e =
    let n : ℕ = length bs in
    let count : 64 * length words ≡ n + z = sym (length-joined 64 words) ∙ ap length e ∙ length-append bs (replicate z 0) ∙ ap (λ t. n + t) (length-replicate z 0) in
    let enough : n ≤ 64 * piece_count 64 n = piece_count-enough 64 n (lit< tt) in
    let least : 64 * piece_count 64 n < n + 64 = piece_count-least 64 n (lit< tt) in
    let zeros : 64 * piece_count 64 n - n ≡ z = omega (arith, count, enough, least, few) in
    let filled : joined 64 (cut 64 bs) ≡ bs ++ replicate z 0 = joined-cut 64 bs (lit< tt) h ∙ ap (λ t. bs ++ replicate t 0) zeros in
    sym (cut-of_joined 64 words (lit< tt) w) ∙ ap (cut 64) (e ∙ sym filled) ∙ cut-of_joined 64 (cut 64 bs) (lit< tt) (pieces_below 64 (piece_count 64 n) bs h)
