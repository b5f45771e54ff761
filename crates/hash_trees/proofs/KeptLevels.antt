-- All levels of a tree, as they are made, and paths by them.
use Rattle.std.proofs.Common.{◌≡◌, ◌≤◌, ◌<◌, ◌-◌, ℕ, zero, suc, List, [], ◌∷◌, ◌++◌, Vec, Global, drop, length, map, refl, sym, take, arith}
use Rattle.std.specs.Prelude.{slice_index_or}
use Rattle.std.proofs.lemmas.List.{take_rest}
use Rattle.hash_trees.specs.Trees.{above}
use Rattle.hash_trees.specs.TreeLevels.{AreLevels, lowest}

-- from the leaves on each of these levels has two nodes at least, and the level is the next one
abbrev pub IsChain : (List ℕ → List ℕ) → List (List ℕ) → List (List (List ℕ)) → List (List ℕ) → Type 0
IsChain h leaves [] level = leaves ≡ level
IsChain h leaves (x ∷ xs) level = (x ≡ leaves) × (2 ≤ length x) × IsChain h (above h x) xs level

pub chain_push : (h : List ℕ → List ℕ) (leaves : List (List ℕ)) (xs : List (List (List ℕ))) (level : List (List ℕ)) → 2 ≤ length level
    → IsChain h leaves xs level → IsChain h leaves (xs ++ level ∷ []) (above h level)
chain_push h leaves [] level l c = (sym c, l, refl)
chain_push h leaves (x ∷ xs) level l c = (c.0, c.1, chain_push h (above h x) xs level l c.2)

pub chain_levels : (h : List ℕ → List ℕ) (leaves : List (List ℕ)) (xs : List (List (List ℕ))) (level : List (List ℕ)) → length level ≡ 1
    → IsChain h leaves xs level → AreLevels h (xs ++ level ∷ [])
chain_levels h leaves [] level l c = l
chain_levels h leaves (x ∷ []) level l c = (c.1, sym c.2, l)
chain_levels h leaves (x ∷ (y ∷ ys)) level l c = (c.1, c.2.0, chain_levels h (above h x) (y ∷ ys) level l c.2)

pub chain_lowest : (h : List ℕ → List ℕ) (leaves : List (List ℕ)) (xs : List (List (List ℕ))) (level : List (List ℕ)) → IsChain h leaves xs level → lowest (xs ++ level ∷ []) ≡ leaves
chain_lowest h leaves [] level c = sym c
chain_lowest h leaves (x ∷ xs) level c = c.0

-- above levels of which the lowest has two nodes come levels, of which the lowest is that above it
pub higher_levels : (h : List ℕ → List ℕ) (xs : List (List (List ℕ))) → AreLevels h xs → 2 ≤ length (lowest xs) → AreLevels h (drop 1 xs) × (lowest (drop 1 xs) ≡ above h (lowest xs))
higher_levels h [] a l = absurd a
higher_levels h (x ∷ []) a l = absurd (omega (arith, a, l))
higher_levels h (x ∷ (y ∷ ys)) a l = (a.2, a.1)

-- the nodes of the first level of some
pub first_items : (levels : List (Vec (List ℕ) Global)) (level : Vec (List ℕ) Global) → 1 ≤ length levels → level ≡ slice_index_or levels 0 level
    → lowest (map (λ level. level.items) levels) ≡ level.items
first_items [] level l e = absurd (omega (arith, l))
first_items (x ∷ levels) level l e = rw e refl

-- the nodes of those behind the first level
pub higher_items : (levels : List (Vec (List ℕ) Global)) → map (λ level. level.items) (take (length levels - 1) (drop 1 levels)) ≡ drop 1 (map (λ level. level.items) levels)
higher_items [] = refl
higher_items (x ∷ levels) = rw (take_rest (x ∷ levels) 1) refl

-- levels have a lowest one, of one node at least
pub some_level : (h : List ℕ → List ℕ) (xs : List (List (List ℕ))) → AreLevels h xs → 1 ≤ length (lowest xs)
some_level h [] a = absurd a
some_level h (x ∷ []) a = omega (arith, a)
some_level h (x ∷ (y ∷ ys)) a = omega (arith, a.0)

-- within a list it does not matter what stands for the items past its end
pub same_item : (xs : List (List ℕ)) (i : ℕ) (d e : List ℕ) → i < length xs → slice_index_or xs i d ≡ slice_index_or xs i e
same_item [] i d e l = absurd (omega (arith, l))
same_item (x ∷ xs) zero d e l = refl
same_item (x ∷ xs) (suc i) d e l = same_item xs i d e (omega (arith, l))
