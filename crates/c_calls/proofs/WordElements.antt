-- Words and the elements whose numbers they are.
use Rattle.std.proofs.Common.{◌≡◌, ℕ, ◌+◌, ◌<◌, ◌%◌, List, [], ◌∷◌, ◌++◌, length, take, get_or, refl, ap₂}
use Rattle.std.proofs.Math.ListN.{set}
use Rattle.std.proofs.lemmas.List.{take_more_set, map_more}
use Rattle.std.proofs.lemmas.List.Elements.{All-map}
use Rattle.math_numbers.specs.Goldilocks.{P}
use Rattle.math_fields.specs.declared.goldilocks.F.{F}
use Rattle.math_fields.specs.Elements.{number, residue}
use Rattle.math_fields.proofs.ElementNumbers.{same_number, residue-number}
use Rattle.c_calls.specs.WordElements.{AreElements, elements, numbers}

-- one word more
pub elements_more : (words : List ℕ) (i : ℕ) (a : F) (items : List F) → i < length words → number a ≡ get_or words i 0 % P → items ≡ elements (take i words)
    → items ++ a ∷ [] ≡ elements (take (i + 1) words)
elements_more words i a items l e h = rw (map_more residue words i 0 l) (ap₂ (λ xs x. xs ++ x ∷ []) h (same_number a (residue (get_or words i 0)) e))

-- one number more is written
pub numbers_more : (words : List ℕ) (items : List F) (i n : ℕ) (d : F) → i < length words → i < length items → n ≡ number (get_or items i d)
    → take i words ≡ numbers (take i items) → take (i + 1) (set words i n) ≡ numbers (take (i + 1) items)
numbers_more words items i n d l m e h = rw (map_more number items i d m, take_more_set words i n l) (ap₂ (λ xs x. xs ++ x ∷ []) h e)

-- elements are those of their numbers
pub elements_of_numbers : (items : List F) → elements (numbers items) ≡ items
elements_of_numbers [] = refl
elements_of_numbers (a ∷ items) = ap₂ (λ x xs. x ∷ xs) (residue-number a) (elements_of_numbers items)

-- numbers of elements are below P
pub numbers_below : (items : List F) → AreElements (numbers items)
numbers_below items = All-map (λ n. n < P) number items (λ i d l. (get_or items i d).below)
