-- The greatest of counts, one list after another.
use Rattle.std.proofs.Common.{◌≡◌, ℕ, ◌+◌, ◌<◌, min, max, List, [], ◌∷◌, ◌++◌, length, take, get_or, nat_cmp, arith}
use Rattle.std.specs.Ordering.{ord_max}
use Rattle.std.proofs.lemmas.List.{take_more, take_min}
use Rattle.std.proofs.lemmas.Bool.Decides.{nat_tests}
use Rattle.math_poly.specs.PolynomialCounts.{greatest_count}

pub greatest_count_positive : {A : Type 0} (lists : List (List A)) → 0 < greatest_count lists
greatest_count_positive [] = omega arith
greatest_count_positive (a ∷ lists) = let h = greatest_count_positive lists in omega arith

greatest_count-append : {A : Type 0} (lists : List (List A)) (a : List A) → greatest_count (lists ++ a ∷ []) ≡ max (greatest_count lists) (length a)
greatest_count-append [] a = omega arith
greatest_count-append (b ∷ lists) a = let h = greatest_count-append lists a in omega arith

pub greatest_count_next : {A : Type 0} (lists : List (List A)) (i : ℕ) (a : List A) → i < length lists → a ≡ get_or lists i a
    → greatest_count (take (i + 1) lists) ≡ max (greatest_count (take i lists)) (length a)
greatest_count_next lists i a l e = rw (take_more lists i a l, ← e) (greatest_count-append (take i lists) a)

pub ord_max_is_max : (m n : ℕ) → ord_max nat_cmp m n ≡ max m n
ord_max_is_max m n = grind (arith, nat_tests)

-- the items of the first list that have a partner in the second
pub take_shorter : {A B : Type 0} (a : List A) (b : List B) → take (min (length a) (length b)) a ≡ take (length b) a
take_shorter a b =
    let e : min (length a) (length b) ≡ min (length b) (length a) = omega arith in
    rw e (take_min (length b) a)
