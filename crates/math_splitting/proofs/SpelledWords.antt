-- Bytes as words, eight each, the highest first, and words that are written over bytes.
use Rattle.std.proofs.Common.{◌≡◌, ◌∙◌, ℕ, zero, suc, ◌+◌, ◌-◌, ◌*◌, ◌/◌, ◌≤◌, ◌<◌, ◌^◌, List, [], ◌∷◌, ◌++◌, length, length-append, map, take, drop, get_or, refl, sym, ap, ap₂, subst, inl, inr, lit<, arith, append_assoc}
use Rattle.std.specs.Int.{from_be_bytes, to_be_bytes, w64}
use Rattle.std.specs.List.{All, flat_map}
use Rattle.std.specs.Simd.{first_chunks}
use Rattle.std.proofs.lemmas.Bool.{cases_lt}
use Rattle.std.proofs.lemmas.List.{append-nil, drop_at, drop-drop, flat_map_more, get_or-drop, get_or-map, get_or_past, get_or-take, length-drop, length-map, length-take-le, take_all, take_at, take-append-drop, take_more}
use Rattle.std.proofs.lemmas.List.Concat.{flat_map-cons}
use Rattle.std.proofs.lemmas.List.Elements.{All-head, All-tail}
use Rattle.std.proofs.lemmas.Nat.{be_bytes_8, from_be_bytes-to_be_bytes_8}
use Rattle.math_fields.specs.declared.goldilocks.F.{F}
use Rattle.math_fields.specs.Elements.{number, residue}
use Rattle.math_splitting.specs.DataWords.{bytes_behind, spelled_words}

-- the words as bytes, eight each
abbrev pub bytes_of : List ℕ → List ℕ
bytes_of words = flat_map (to_be_bytes w64) words

pub length-bytes : (words : List ℕ) → length (bytes_of words) ≡ 8 * length words
length-bytes [] = refl
length-bytes (w ∷ words) = ap length (flat_map-cons (to_be_bytes w64) w words) ∙ length-append (to_be_bytes w64 w) (bytes_of words) ∙ omega (arith, length-bytes words)

-- the first i words stand from place `from` on, and the bytes before and after them are as they were
pub record AreWritten (from i : ℕ) (old words bytes : List ℕ) : Type 0 where
  pub front : take (from + 8 * i) bytes ≡ take from old ++ bytes_of (take i words)
  pub rest : drop (from + 8 * i) bytes ≡ drop (from + 8 * i) old

pub none_written : (from : ℕ) (old words : List ℕ) → AreWritten from 0 old words old
none_written from old words = record { front = ap (λ n. take n old) (let q : from + 8 * 0 ≡ from = omega arith in q) ∙ sym (append-nil (take from old)); rest = refl }

pub one_written : (from i place word : ℕ) (old words bytes new : List ℕ) → place ≡ from + 8 * i → place + 8 ≤ length bytes → i < length words → word ≡ get_or words i 0
    → new ≡ take place bytes ++ (to_be_bytes w64 word ++ drop (place + 8) bytes) → AreWritten from i old words bytes → AreWritten from (i + 1) old words new
one_written from i place word old words bytes new e l m hw hn h =
    let next : from + 8 * (i + 1) ≡ place + 8 = omega arith in
    let after : from + 8 * i + 8 ≡ place + 8 = omega arith in
    let front = take place bytes ++ to_be_bytes w64 word in
    let rest = drop (place + 8) bytes in
    let long : length front ≡ place + 8 = length-append (take place bytes) (to_be_bytes w64 word) ∙ ap (λ n. n + 8) (length-take-le place bytes (omega (arith, l))) in
    let parts : new ≡ front ++ rest = hn ∙ sym (append_assoc (take place bytes) (to_be_bytes w64 word) rest) in
    record {
      front = ap₂ take next parts
          ∙ take_at front rest (place + 8) long
          ∙ ap₂ (λ xs ys. xs ++ ys) (ap (λ n. take n bytes) e ∙ h.front) (ap (to_be_bytes w64) hw)
          ∙ flat_map_more (to_be_bytes w64) (take from old) (take i words) (get_or words i 0)
          ∙ ap (λ xs. take from old ++ bytes_of xs) (sym (take_more words i 0 m));
      rest = ap₂ drop next parts
          ∙ drop_at front rest (place + 8) long
          ∙ ap (λ n. drop n bytes) (sym after) ∙ sym (drop-drop 8 (from + 8 * i) bytes) ∙ ap (drop 8) h.rest ∙ drop-drop 8 (from + 8 * i) old
          ∙ ap (λ n. drop n old) (let q : from + 8 * i + 8 ≡ from + 8 * (i + 1) = omega arith in q);
    }

pub all_written : (from i : ℕ) (old words bytes : List ℕ) → i ≡ length words → AreWritten from i old words bytes
    → bytes ≡ take from old ++ bytes_of words ++ drop (from + 8 * length words) old
all_written from i old words bytes e h = grind (arith, take-append-drop, take_all)

-- The words that bytes spell.

length-chunks : (n k : ℕ) (bytes : List ℕ) → length (first_chunks n k bytes) ≡ k
length-chunks n zero bytes = refl
length-chunks n (suc k) bytes = let e : length (first_chunks n k (drop n bytes)) ≡ k = length-chunks n k (drop n bytes) in omega (arith, e)

pub length-spelled : (bytes : List ℕ) → length (spelled_words bytes) ≡ length bytes / 8
length-spelled bytes = length-map (first_chunks 8 (length bytes / 8) bytes) (from_be_bytes w64) ∙ length-chunks 8 (length bytes / 8) bytes

-- eight bytes in front are a word
spelled-front : (eight bytes : List ℕ) → length eight ≡ 8 → spelled_words (eight ++ bytes) ≡ from_be_bytes w64 eight ∷ spelled_words bytes
spelled-front eight bytes long =
    let more : length (eight ++ bytes) / 8 ≡ suc (length bytes / 8) = omega (arith, length-append eight bytes, long) in
    ap (λ k. map (from_be_bytes w64) (first_chunks 8 k (eight ++ bytes))) more
    ∙ ap₂ (λ x xs. from_be_bytes w64 x ∷ map (from_be_bytes w64) (first_chunks 8 (length bytes / 8) xs)) (take_at eight bytes 8 long) (drop_at eight bytes 8 long)

-- so are more of them
pub spelled-append : (k : ℕ) (front bytes : List ℕ) → length front ≡ 8 * k → spelled_words (front ++ bytes) ≡ spelled_words front ++ spelled_words bytes
spelled-append zero [] bytes long = refl
spelled-append zero (x ∷ front) bytes long = absurd (omega (arith, long))
spelled-append (suc k) front bytes long =
    let eight = take 8 front in
    let rest = drop 8 front in
    let first : length eight ≡ 8 = length-take-le 8 front (omega (arith, long)) in
    let left : length rest ≡ 8 * k = omega (arith, length-drop 8 front, long) in
    let parts : eight ++ rest ≡ front = take-append-drop 8 front in
    ap (λ xs. spelled_words (xs ++ bytes)) (sym parts) ∙ ap spelled_words (append_assoc eight rest bytes)
    ∙ spelled-front eight (rest ++ bytes) first ∙ ap (λ xs. from_be_bytes w64 eight ∷ xs) (spelled-append k rest bytes left)
    ∙ ap (λ xs. xs ++ spelled_words bytes) (sym (spelled-front eight rest first) ∙ ap spelled_words parts)

-- the first words are those of the first bytes, and the others those of the other bytes
pub spelled-parts : (k : ℕ) (bytes : List ℕ) → 8 * k ≤ length bytes
    → (spelled_words (take (8 * k) bytes) ≡ take k (spelled_words bytes)) × (spelled_words (drop (8 * k) bytes) ≡ drop k (spelled_words bytes))
spelled-parts k bytes within =
    let front = spelled_words (take (8 * k) bytes) in
    let rest = spelled_words (drop (8 * k) bytes) in
    let long : length (take (8 * k) bytes) ≡ 8 * k = length-take-le (8 * k) bytes within in
    let many : length front ≡ k = omega (arith, length-spelled (take (8 * k) bytes), long) in
    let whole : spelled_words bytes ≡ front ++ rest = ap spelled_words (sym (take-append-drop (8 * k) bytes)) ∙ spelled-append k (take (8 * k) bytes) (drop (8 * k) bytes) long in
    (sym (ap (take k) whole ∙ take_at front rest k many), sym (ap (drop k) whole ∙ drop_at front rest k many))

-- words as bytes spell the words
pub spelled-words : (words : List ℕ) → All (λ w. w < 2 ^ 64) words → spelled_words (bytes_of words) ≡ words
spelled-words [] h = refl
spelled-words (w ∷ words) h =
    ap spelled_words (flat_map-cons (to_be_bytes w64) w words) ∙ spelled-front (to_be_bytes w64 w) (bytes_of words) refl
    ∙ ap₂ (λ x xs. x ∷ xs) (from_be_bytes-to_be_bytes_8 w (All-head (λ v. v < 2 ^ 64) w words h)) (spelled-words words (All-tail (λ v. v < 2 ^ 64) w words h))

-- bytes of words that are written over others
pub spelled-written : (bytes words : List ℕ) (from : ℕ) → from + length words ≤ length (spelled_words bytes) → All (λ w. w < 2 ^ 64) words
    → spelled_words (take (8 * from) bytes ++ bytes_of words ++ drop (8 * from + 8 * length words) bytes)
    ≡ take from (spelled_words bytes) ++ (words ++ drop (length words) (drop from (spelled_words bytes)))
spelled-written bytes words from within h =
    let fits : 8 * from + 8 * length words ≤ length bytes = omega (arith, within, length-spelled bytes) in
    let first : length (take (8 * from) bytes) ≡ 8 * from = length-take-le (8 * from) bytes (omega (arith, fits)) in
    let left : 8 * length words ≤ length (drop (8 * from) bytes) = omega (arith, fits, length-drop (8 * from) bytes) in
    let both = spelled-parts from bytes (omega (arith, fits)) in
    let rest : spelled_words (drop (8 * from + 8 * length words) bytes) ≡ drop (length words) (drop from (spelled_words bytes)) =
    ap spelled_words (sym (drop-drop (8 * length words) (8 * from) bytes)) ∙ (spelled-parts (length words) (drop (8 * from) bytes) left).1 ∙ ap (drop (length words)) both.1 in
    ap spelled_words (append_assoc (take (8 * from) bytes) (bytes_of words) (drop (8 * from + 8 * length words) bytes))
    ∙ spelled-append from (take (8 * from) bytes) (bytes_of words ++ drop (8 * from + 8 * length words) bytes) first
    ∙ ap₂ (λ xs ys. xs ++ ys) both.0
    (spelled-append (length words) (bytes_of words) (drop (8 * from + 8 * length words) bytes) (length-bytes words)
    ∙ ap₂ (λ xs ys. xs ++ ys) (spelled-words words h) rest)

-- and the bytes behind the last whole word stay
pub behind-written : (bytes words : List ℕ) (from : ℕ) → from + length words ≤ length (spelled_words bytes)
    → bytes_behind (take (8 * from) bytes ++ bytes_of words ++ drop (8 * from + 8 * length words) bytes) ≡ bytes_behind bytes
behind-written bytes words from within =
    let k = 8 * from + 8 * length words in
    let m = 8 * (length bytes / 8) in
    let fits : k ≤ m = omega (arith, within, length-spelled bytes) in
    let front = take (8 * from) bytes ++ bytes_of words in
    let new = front ++ drop k bytes in
    let first : length (take (8 * from) bytes) ≡ 8 * from = length-take-le (8 * from) bytes (omega (arith, fits)) in
    let long : length front ≡ k = length-append (take (8 * from) bytes) (bytes_of words) ∙ ap₂ (λ i j. i + j) first (length-bytes words) in
    let same : length new ≡ length bytes = omega (arith, length-append front (drop k bytes), long, length-drop k bytes, fits) in
    let parts : m ≡ k + (m - k) = omega (arith, fits) in
    ap (λ n. drop (8 * (n / 8)) new) same ∙ ap (λ j. drop j new) parts ∙ sym (drop-drop (m - k) k new)
    ∙ ap (drop (m - k)) (drop_at front (drop k bytes) k long) ∙ drop-drop (m - k) k bytes ∙ ap (λ j. drop j bytes) (sym parts)

-- bytes are those of the words that they spell
pub bytes-spelled : (n : ℕ) (bytes : List ℕ) → length bytes ≡ 8 * n → ((i : ℕ) → get_or bytes i 0 < 256) → bytes ≡ bytes_of (spelled_words bytes)
bytes-spelled zero [] long h = refl
bytes-spelled zero (x ∷ bytes) long h = absurd (omega (arith, long))
bytes-spelled (suc n) bytes long h =
    let eight = take 8 bytes in
    let rest = drop 8 bytes in
    let first : length eight ≡ 8 = length-take-le 8 bytes (omega (arith, long)) in
    let left : length rest ≡ 8 * n = omega (arith, length-drop 8 bytes, long) in
    let parts : eight ++ rest ≡ bytes = take-append-drop 8 bytes in
    let small : (i : ℕ) → get_or eight i 0 < 256 = λ i. elim (cases_lt i 8) as (λ _. get_or eight i 0 < 256) [
      | inl b ↦ subst (λ (m : ℕ). m < 256) (sym (get_or-take 8 bytes i 0 b)) (h i)
      | inr o ↦ subst (λ (m : ℕ). m < 256) (sym (get_or_past eight i 0 (omega (arith, o, first)))) (lit< tt)
    ] in
    let below : (i : ℕ) → get_or rest i 0 < 256 = λ i. subst (λ (m : ℕ). m < 256) (sym (get_or-drop 8 bytes i 0)) (h (8 + i)) in
    sym parts ∙ ap₂ (λ xs ys. xs ++ ys) (sym (be_bytes_8 eight (from_be_bytes w64 eight) first small refl)) (bytes-spelled n rest left below)
    ∙ sym (flat_map-cons (to_be_bytes w64) (from_be_bytes w64 eight) (spelled_words rest))
    ∙ ap bytes_of (sym (spelled-front eight rest first) ∙ ap spelled_words parts)

-- the numbers of elements are words
pub numbers_fit : (items : List F) → All (λ w. w < 2 ^ 64) (map number items)
numbers_fit items = λ k d l.
    let below : k < length items = omega (arith, l, length-map items number) in
    let x = get_or items k (residue 0) in
    subst (λ (w : ℕ). w < 2 ^ 64) (sym (get_or-map number items k (residue 0) d below)) (omega (arith, x.below))
