-- Elements as bytes, a word each, the highest byte first.
use Rattle.std.proofs.Common.{◌≡◌, ℕ, ◌+◌, ◌*◌, ◌/◌, ◌%◌, ◌<◌, List, [], ◌∷◌, ◌++◌, length, take, drop, map, get_or, refl, sym, ◌∙◌, ap, ap₂, arith}
use Rattle.std.proofs.Math.Nat.{mod-eq_of_lt}
use Rattle.std.proofs.lemmas.List.{get_or-map, length-drop, length-map, map-append, take-append-drop, take_more}
use Rattle.std.proofs.lemmas.Nat.{be_bytes_8, from_be_bytes-to_be_bytes_8}
use Rattle.std.specs.Int.{from_be_bytes, to_be_bytes, w64}
use Rattle.std.specs.Simd.{first_chunks}
use Rattle.math_numbers.specs.Goldilocks.{P}
use Rattle.math_fields.specs.declared.goldilocks.F.{F}
use Rattle.math_fields.specs.Elements.{number}
use Rattle.math_fields.specs.ElementEncodingLaws.{element_apart}
use Rattle.shard_fingerprints.specs.EqualElements.{element_equal}
use Rattle.shard_format.specs.Records.{element_spelling, elements_spelling}

-- elements are spelled in one way
pub spelled_once : (xs ys : List F) → elements_spelling xs ≡ elements_spelling ys → xs ≡ ys
spelled_once [] [] e = refl
spelled_once [] (y ∷ ys) e = absurd (omega (arith, ap length e))
spelled_once (x ∷ xs) [] e = absurd (omega (arith, ap length e))
spelled_once (x ∷ xs) (y ∷ ys) e =
    let apart = element_apart (number x) (number y) (elements_spelling xs) (elements_spelling ys) x.below y.below e in
    ap₂ (λ a l. a ∷ l) (element_equal x y apart.0) (spelled_once xs ys apart.1)

-- eight bytes that are read as a number below P are the word of the element with that number
pub spelled_where_below : (word : List ℕ) (n : ℕ) (a : F) → length word ≡ 8 → ((i : ℕ) → get_or word i 0 < 256) → n ≡ from_be_bytes w64 word → n < P → number a ≡ n % P
    → word ≡ element_spelling a
spelled_where_below word n a l h e below is = sym (ap (to_be_bytes w64) (is ∙ mod-eq_of_lt below) ∙ be_bytes_8 word n l h e)

-- and those that are read as another one are the word of none
pub below_where_spelled : (word : List ℕ) (n : ℕ) (a : F) → n ≡ from_be_bytes w64 word → word ≡ element_spelling a → n < P
below_where_spelled word n a e spelled =
    let read : n ≡ number a = e ∙ ap (from_be_bytes w64) spelled ∙ from_be_bytes-to_be_bytes_8 (number a) (omega (arith, a.below)) in
    rw read a.below

-- each word of the bytes of elements is that of one of them
pub chunks_of_spelled : (xs : List F) → first_chunks 8 (length xs) (elements_spelling xs) ≡ map element_spelling xs
chunks_of_spelled [] = refl
chunks_of_spelled (x ∷ xs) = ap (λ l. element_spelling x ∷ l) (chunks_of_spelled xs)

-- eight bytes a word
pub length_spelled : (xs : List F) → length (elements_spelling xs) ≡ length xs * 8
length_spelled [] = refl
length_spelled (x ∷ xs) = omega (arith, length_spelled xs)

pub chunks_are_spelled : (xs : List F) (bytes : List ℕ) → bytes ≡ elements_spelling xs → first_chunks 8 (length bytes / 8) bytes ≡ map element_spelling xs
chunks_are_spelled xs bytes e =
    let count : length bytes / 8 ≡ length xs = omega (arith, ap length e, length_spelled xs) in
    ap₂ (λ k b. first_chunks 8 k b) count e ∙ chunks_of_spelled xs

-- bytes whose words are those of elements are the bytes of these
pub spelled_of_chunks : (xs : List F) (bytes : List ℕ) → length bytes ≡ length xs * 8 → first_chunks 8 (length xs) bytes ≡ map element_spelling xs → bytes ≡ elements_spelling xs
spelled_of_chunks [] [] l e = refl
spelled_of_chunks [] (b ∷ bs) l e = absurd (omega (arith, l))
spelled_of_chunks (x ∷ xs) bytes l e =
    let left : length (drop 8 bytes) ≡ length xs * 8 = length-drop 8 bytes ∙ omega (arith, l) in
    let first : take 8 bytes ≡ element_spelling x = ap (λ (ws : List (List ℕ)). get_or ws 0 []) e in
    sym (take-append-drop 8 bytes) ∙ ap₂ (λ (s t : List ℕ). s ++ t) first (spelled_of_chunks xs (drop 8 bytes) left (ap (drop 1) e))

pub spelled_of_all : (xs : List F) (bytes : List ℕ) (words : List (List ℕ)) → length bytes % 8 ≡ 0 → words ≡ first_chunks 8 (length bytes / 8) bytes → length words ≡ length bytes / 8
    → map element_spelling xs ≡ words → bytes ≡ elements_spelling xs
spelled_of_all xs bytes words whole chunks l e =
    let count : length xs ≡ length bytes / 8 = sym (length-map xs element_spelling) ∙ ap length e ∙ l in
    spelled_of_chunks xs bytes (omega (arith, whole, count)) (ap (λ k. first_chunks 8 k bytes) count ∙ sym chunks ∙ sym e)

-- one element more, from the next word
pub next_spelled : (words : List (List ℕ)) (xs more : List F) (i : ℕ) (a : F) (d : List ℕ) → i < length words → get_or words i d ≡ element_spelling a
    → map element_spelling xs ≡ take i words → more ≡ xs ++ a ∷ [] → map element_spelling more ≡ take (i + 1) words
next_spelled words xs more i a d l spelled e m =
    ap (map element_spelling) m ∙ map-append element_spelling xs (a ∷ []) ∙ ap₂ (λ (s : List (List ℕ)) (t : List ℕ). s ++ t ∷ []) e (sym spelled) ∙ sym (take_more words i d l)

-- a word at some place is that of an element, where all bytes are those of elements
pub word_spelled : (xs : List F) (words : List (List ℕ)) (i : ℕ) (d : List ℕ) → i < length words → words ≡ map element_spelling xs → (a : F) × (get_or words i d ≡ element_spelling a)
word_spelled [] words i d l e = absurd (omega (arith, l, ap length e))
word_spelled (x ∷ xs) words i d l e =
    let within : i < length (x ∷ xs) = omega (arith, l, ap length e, length-map (x ∷ xs) element_spelling) in
    (get_or (x ∷ xs) i x, ap (λ (ws : List (List ℕ)). get_or ws i d) e ∙ get_or-map element_spelling (x ∷ xs) i x d within)
