-- A root binds the level below it.
use Rattle.std.proofs.Common.{◌≡◌, ◌⊎◌, ℕ, zero, suc, ◌≤◌, ◌^◌, List, [], ◌∷◌, length, map, refl, sym, ap, ◌∙◌, subst, arith, inl, inr}
use Rattle.hash_trees.specs.Trees.{above, in_tree, leaf_message, levels_above, on_level, root, root_above}
use Rattle.hash_trees.specs.Binding.{Collide, HasDigests, leaves}
use Rattle.hash_trees.proofs.Collisions.{collide_behind, collide_in_front}
use Rattle.hash_trees.proofs.Enough.{below_power}
use Rattle.hash_trees.proofs.Levels.{AreDigests, digests-above, half_of_power, length-above, length-on_level, level_binds}

pub root_binds : (h : List ℕ → List ℕ) (k : ℕ) (xs ys : List (List ℕ)) → HasDigests h → AreDigests xs → AreDigests ys → length xs ≡ length ys → length xs ≤ 2 ^ k
    → root_above h k xs ≡ root_above h k ys → (xs ≡ ys) ⊎ Collide h (levels_above h k xs) (levels_above h k ys)
unfolding root_above levels_above
root_binds h zero [] [] d p q l few e = inl refl
root_binds h zero [] (y ∷ ys) d p q l few e = absurd (omega (arith, l))
root_binds h zero (x ∷ xs) [] d p q l few e = absurd (omega (arith, l))
root_binds h zero (x ∷ []) (y ∷ []) d p q l few e = inl (ap (λ z. z ∷ []) e)
root_binds h zero (x ∷ []) (y ∷ (z ∷ ys)) d p q l few e = absurd (omega (arith, l))
root_binds h zero (x ∷ (y ∷ xs)) ys d p q l few e = absurd (omega (arith, few))
root_binds h (suc k) xs ys d p q l few e =
    let over_xs = length-above h xs in
    let over_ys = length-above h ys in
    let fewer = half_of_power k (length xs) few in
    let same_length : length (above h xs) ≡ length (above h ys) = omega (arith, over_xs, over_ys, l) in
    let within : length (above h xs) ≤ 2 ^ k = omega (arith, over_xs, fewer) in
    let count_xs = length-on_level xs in
    let count_ys = length-on_level ys in
    let hashed : length (on_level xs) ≡ length (on_level ys) = omega (arith, count_xs, count_ys, l) in
    elim (root_binds h k (above h xs) (above h ys) d (digests-above h xs d p) (digests-above h ys d q) same_length within e) [
      | inr c ↦ inr (collide_behind h (on_level xs) (on_level ys) _ _ hashed c)
      | inl same ↦ elim (level_binds h xs ys p q l same) [ inl level ↦ inl level | inr c ↦ inr (collide_in_front h _ _ _ _ c) ]
    ]

pub digests-leaves : (h : List ℕ → List ℕ) (xs : List (List ℕ)) → HasDigests h → AreDigests (leaves h xs)
digests-leaves h [] d = tt
digests-leaves h (x ∷ xs) d = (d (leaf_message x), digests-leaves h xs d)

pub length-leaves : (h : List ℕ → List ℕ) (xs : List (List ℕ)) → length (leaves h xs) ≡ length xs
length-leaves h [] = refl
length-leaves h (x ∷ xs) = let before = length-leaves h xs in omega (arith, before)

pub length-messages : (xs : List (List ℕ)) → length (map leaf_message xs) ≡ length xs
length-messages [] = refl
length-messages (x ∷ xs) = let before = length-messages xs in omega (arith, before)

-- trees of equally many digests with one root have the same digests, or messages collide
pub trees_bind : (h : List ℕ → List ℕ) (xs ys : List (List ℕ)) → HasDigests h → AreDigests xs → AreDigests ys → length xs ≡ length ys
    → root h xs ≡ root h ys → (xs ≡ ys) ⊎ Collide h (in_tree h xs) (in_tree h ys)
trees_bind h xs ys d p q l e =
    let same : root_above h (length xs) xs ≡ root_above h (length xs) ys = e ∙ ap (λ k. root_above h k ys) (sym l) in
    elim (root_binds h (length xs) xs ys d p q l (below_power (length xs)) same) [
      | inl all ↦ inl all
      | inr c ↦ inr (subst (λ k. Collide h (in_tree h xs) (levels_above h k ys)) l c)
    ]
