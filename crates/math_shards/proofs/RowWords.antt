-- Rows of words, the numbers of elements.
use Rattle.std.proofs.Common.{◌≡◌, ◌↔◌, ◌∙◌, ℕ, ◌+◌, ◌%◌, ◌<◌, ◌&&◌, Bool, true, List, [], ◌∷◌, ◌++◌, length, map, take, drop, get_or, sym, ap, append_assoc, arith}
use Rattle.std.specs.List.{AllZip}
use Rattle.std.proofs.lemmas.Bool.{and_from, and_parts}
use Rattle.std.proofs.lemmas.List.{drop-map, get_or_default, get_or-drop, get_or-map, get_or-take, length-drop, length-take, length-take-le, map-append, take-map, take_more}
use Rattle.std.proofs.lemmas.List.Elements.{AllZip-get_or}
use Rattle.math_numbers.specs.Goldilocks.{P}
use Rattle.math_fields.specs.declared.goldilocks.F.{F}
use Rattle.math_fields.specs.Elements.{number, residue, same}
use Rattle.math_fields.proofs.ElementNumbers.{same_number}
use Rattle.math_transforms.proofs.PlaceByPlace.{AllZip-next}
use Rattle.math_transforms.proofs.WrittenRows.{part-read}
use Rattle.math_splitting.proofs.SameCells.{same_by_items}

-- the number of an item in its place
pub number_at : {A : Type 0} (f : A → ℕ) (xs : List A) (i : ℕ) (x : A) → i < length xs → x ≡ get_or xs i x → f x ≡ get_or (map f xs) i 0
number_at f xs i x l e = ap f e ∙ sym (get_or-map f xs i x 0 l)

-- and of one in a part
pub number_in : {A : Type 0} (f : A → ℕ) (xs : List A) (from n i : ℕ) (x : A) → i < n → from + i < length xs → x ≡ get_or (take n (drop from xs)) i x
    → f x ≡ get_or (take n (drop from (map f xs))) i 0
number_in f xs from n i x l b e = grind (arith, number_at, length-take, length-drop, drop-map, take-map)

-- the element of one word more
pub words-more : (words : List ℕ) (i : ℕ) (old items new : List F) (x : F) → i < length words → number x ≡ get_or words i 0 % P → items ≡ old ++ map residue (take i words)
    → new ≡ items ++ (x ∷ []) → new ≡ old ++ map residue (take (i + 1) words)
words-more words i old items new x l e h p =
    let word = get_or words i 0 in
    p ∙ ap (λ ys. ys ++ (x ∷ [])) h ∙ append_assoc old (map residue (take i words)) (x ∷ [])
    ∙ ap (λ ys. old ++ ys) (ap (λ y. map residue (take i words) ++ (y ∷ [])) (same_number x (residue word) e)
    ∙ sym (ap (map residue) (take_more words i 0 l) ∙ map-append residue (take i words) (word ∷ [])))

-- the element of a word is that of its place
pub element_at : (words : List ℕ) (from n i : ℕ) (y : F) → i < n → from + i < length words → number y ≡ get_or (take n (drop from words)) i 0 % P → y ≡ get_or (drop from (map residue words)) i y
element_at words from n i y l b e = grind (arith, same_number, part-read, get_or-drop, get_or-map)

-- with one item more, lists are same so far where they were, and these items are
pub equal-more : (xs ys : List F) (i : ℕ) (x y : F) (b c : Bool) → i < length xs → i < length ys → x ≡ get_or xs i x → y ≡ get_or ys i y
    → (b ≡ true ↔ AllZip same (take i xs) (take i ys)) → (c ≡ true ↔ same x y) → (b && c) ≡ true ↔ AllZip same (take (i + 1) xs) (take (i + 1) ys)
equal-more xs ys i x y b c l m e f so_far here = grind (arith, and_parts, AllZip-next, get_or-take, AllZip-get_or, length-take-le, same_by_items, get_or_default, and_from)
