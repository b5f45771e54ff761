-- Words read from bytes, one after the other.
use Rattle.std.proofs.Common.{◌≡◌, ◌∙◌, ℕ, suc, Ok, append_assoc, ◌+◌, ◌/◌, ◌<◌, ◌≤◌, List, [], ◌∷◌, ◌++◌, length, map, take, get_or, refl, sym, ap, ap₂, arith}
use Rattle.std.proofs.Math.ListN.{set}
use Rattle.std.specs.Int.{from_be_bytes, to_be_bytes, w64}
use Rattle.std.specs.Simd.{first_chunks}
use Rattle.std.proofs.lemmas.List.{map-append, take_all, take_more, take_more_set}
use Rattle.std.proofs.lemmas.List.Concat.{flat_map-cons}
use Rattle.std.proofs.lemmas.List.Elements.{All-append, All-head, All-tail}
use Rattle.math_numbers.specs.Goldilocks.{P}
use Rattle.math_codec.specs.Lists.{scan_items}
use Rattle.math_fields.specs.ElementEncoding.{scan_element}
use Rattle.math_fields.specs.ElementEncodingLaws.{element_again}
use Rattle.math_splitting.proofs.SpelledWords.{spelled-words}
use Rattle.c_calls.specs.WordElements.{AreElements}
use Rattle.c_calls.proofs.WrittenWords.{bytes_of}

-- the first words are those of the first eight bytes each, and with one more they still are
pub one_read : (i word : ℕ) (words : List ℕ) (eights : List (List ℕ)) (d : List ℕ) → i < length words → i < length eights → word ≡ from_be_bytes w64 (get_or eights i d)
    → take i words ≡ map (from_be_bytes w64) (take i eights) → take (i + 1) (set words i word) ≡ map (from_be_bytes w64) (take (i + 1) eights)
one_read i word words eights d l m e h =
    take_more_set words i word l ∙ ap₂ (λ xs x. xs ++ x ∷ []) h e
    ∙ sym (ap (map (from_be_bytes w64)) (take_more eights i d m) ∙ map-append (from_be_bytes w64) (take i eights) (get_or eights i d ∷ []))

-- where the bytes are those of the items, all words are these
pub all_read : (i : ℕ) (words items bytes : List ℕ) (eights : List (List ℕ)) → length words ≤ i → length eights ≤ i → take i words ≡ map (from_be_bytes w64) (take i eights)
    → eights ≡ first_chunks 8 (length bytes / 8) bytes → AreElements items → bytes ≡ bytes_of items → words ≡ items
all_read i words items bytes eights l m h chunks below e = grind (arith, take_all, spelled-words)

-- one word below P more
pub elements_pushed : (words : List ℕ) (word : ℕ) → AreElements words → word < P → AreElements (words ++ word ∷ [])
elements_pushed words word h l = All-append (λ w. w < P) words (word ∷ []) h (λ k d m. let first : k ≡ 0 = omega arith in rw first l)

-- words below P are read as elements, and what follows them is left
pub words_scanned : (words rest : List ℕ) → AreElements words → scan_items scan_element (length words) (bytes_of words ++ rest) ≡ Ok rest
unfolding scan_items
words_scanned [] rest h = refl
words_scanned (word ∷ words) rest h =
    ap (scan_items scan_element (suc (length words))) (ap (λ bytes. bytes ++ rest) (flat_map-cons (to_be_bytes w64) word words) ∙ append_assoc (to_be_bytes w64 word) (bytes_of words) rest)
    ∙ rw (element_again word (bytes_of words ++ rest) (All-head (λ w. w < P) word words h)) (words_scanned words rest (All-tail (λ w. w < P) word words h))
