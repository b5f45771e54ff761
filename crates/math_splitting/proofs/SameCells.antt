-- Lists of elements that are same place by place.
use Rattle.std.proofs.Common.{◌≡◌, ℕ, zero, suc, ◌<◌, List, [], ◌∷◌, length, get_or, sym, ◌∙◌, arith}
use Rattle.std.specs.List.{AllZip}
use Rattle.math_fields.specs.declared.goldilocks.F.{F}
use Rattle.math_fields.specs.Elements.{residue, same}

abbrev pub nought : F
nought = residue 0

-- what is same as one list
pub same_as_one : (row xs ys : List F) → AllZip same row xs → AllZip same row ys → AllZip same xs ys
same_as_one [] [] [] h k = tt
same_as_one [] [] (y ∷ ys) h k = absurd k
same_as_one [] (x ∷ xs) ys h k = absurd h
same_as_one (a ∷ row) [] ys h k = absurd h
same_as_one (a ∷ row) (x ∷ xs) [] h k = absurd k
same_as_one (a ∷ row) (x ∷ xs) (y ∷ ys) h k = (sym h.0 ∙ k.0, same_as_one row xs ys h.1 k.1)

-- lists of n items that are same item by item
pub same_by_items : (n : ℕ) (xs ys : List F) → length xs ≡ n → length ys ≡ n → ((i : ℕ) → i < n → same (get_or xs i nought) (get_or ys i nought)) → AllZip same xs ys
same_by_items n [] [] l m h = tt
same_by_items n [] (y ∷ ys) l m h = absurd (omega (arith, l, m))
same_by_items n (x ∷ xs) [] l m h = absurd (omega (arith, l, m))
same_by_items zero (x ∷ xs) (y ∷ ys) l m h = absurd (omega (arith, l))
same_by_items (suc n) (x ∷ xs) (y ∷ ys) l m h = (h 0 (omega arith), same_by_items n xs ys (omega (arith, l)) (omega (arith, m)) (λ i b. h (suc i) (omega arith)))
