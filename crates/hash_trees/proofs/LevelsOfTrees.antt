-- The levels of a tree by their number, and the pairs of nodes on them.
use Rattle.std.proofs.Common.{◌≡◌, ℕ, zero, suc, ◌+◌, ◌-◌, ◌*◌, ◌<◌, ◌≤◌, List, [], ◌∷◌, Vec, Global, length, map, refl, sym, ap, ◌∙◌, subst, arith}
use Rattle.std.specs.Prelude.{slice_index_or}
use Rattle.std.proofs.lemmas.List.{length-map}
use Rattle.hash_trees.specs.Trees.{above, node_message}
use Rattle.hash_trees.specs.TreeLevels.{AreChildrenOf, AreLevels, HasChildren, level_at, lowest, node_at}
use Rattle.hash_trees.proofs.KeptLevels.{same_item}
use Rattle.hash_trees.proofs.Levels.{length-above, pair_at}
use Rattle.hash_trees.proofs.LoweredNodes.{one_less}

-- the level above is that of the level above the leaves
pub level_up : (h : List ℕ → List ℕ) (leaves : List (List ℕ)) (k : ℕ) → level_at h (above h leaves) k ≡ above h (level_at h leaves k)
level_up h leaves zero = refl
level_up h leaves (suc k) = ap (above h) (level_up h leaves k)

pub level_in : (h : List ℕ → List ℕ) (levels : List (List (List ℕ))) (k : ℕ) → AreLevels h levels → k < length levels
    → slice_index_or levels k [] ≡ level_at h (lowest levels) k
level_in h [] k a l = absurd a
level_in h (level ∷ []) zero a l = refl
level_in h (level ∷ []) (suc k) a l = absurd (omega (arith, l))
level_in h (level ∷ (next ∷ higher)) zero a l = refl
level_in h (level ∷ (next ∷ higher)) (suc k) a l =
    level_in h (next ∷ higher) k a.2 (omega (arith, l)) ∙ ap (λ n. level_at h n k) a.1 ∙ level_up h level k

one_stays : (h : List ℕ → List ℕ) (leaves : List (List ℕ)) (k : ℕ) → length leaves ≡ 1 → length (level_at h leaves k) ≡ 1
one_stays h leaves zero l = l
one_stays h leaves (suc k) l =
    let below = one_stays h leaves k l in
    let size = length-above h (level_at h leaves k) in
    omega (arith, below, size)

-- above the last level there is one node
pub level_past : (h : List ℕ → List ℕ) (levels : List (List (List ℕ))) (k : ℕ) → AreLevels h levels → length levels ≤ k + 1 → length (level_at h (lowest levels) k) ≡ 1
level_past h [] k a l = absurd a
level_past h (level ∷ []) k a l = one_stays h level k a
level_past h (level ∷ (next ∷ higher)) zero a l = absurd (omega (arith, l))
level_past h (level ∷ (next ∷ higher)) (suc k) a l =
    ap length (sym (level_up h level k)) ∙ ap (λ n. length (level_at h n k)) (sym a.1) ∙ level_past h (next ∷ higher) k a.2 (omega (arith, l))

-- the nodes of a level among some
pub level_items : (levels : List (Vec (List ℕ) Global)) (k : ℕ) (level : Vec (List ℕ) Global) → k < length levels → level ≡ slice_index_or levels k level
    → level.items ≡ slice_index_or (map (λ level. level.items) levels) k []
level_items [] k level l e = absurd (omega (arith, l))
level_items (x ∷ levels) zero level l e = ap (λ v. v.items) e
level_items (x ∷ levels) (suc k) level l e = level_items levels k level (omega (arith, l)) e

-- the two nodes that a node is made of are its children
pub children_of : (h : List ℕ → List ℕ) (leaves : List (List ℕ)) (level place : ℕ) → HasChildren h leaves level place
    → AreChildrenOf h leaves level place (node_at h leaves (level - 1) (2 * place)) (node_at h leaves (level - 1) (2 * place + 1))
children_of h leaves zero place two = absurd (omega (arith, two.0))
children_of h leaves (suc level) place two =
    let both : 2 * place + 1 < length (level_at h leaves level) = subst (λ k. 2 * place + 1 < length (level_at h leaves k)) (one_less level) two.1 in
    let made = pair_at h (level_at h leaves level) place both in
    record {
      is_left = refl;
      is_right = refl;
      node = ap (λ k. h (node_message (node_at h leaves k (2 * place)) (node_at h leaves k (2 * place + 1)))) (one_less level) ∙ sym made;
    }

-- a kept level is that level of the tree
pub level_found : (h : List ℕ → List ℕ) (leaves : List (List ℕ)) (levels : List (Vec (List ℕ) Global)) (level : ℕ) (below : Vec (List ℕ) Global)
    → AreLevels h (map (λ level. level.items) levels) → lowest (map (λ level. level.items) levels) ≡ leaves → level < length levels → below ≡ slice_index_or levels level below
    → below.items ≡ level_at h leaves level
level_found h leaves levels level below a is l e =
    let size = length-map levels (λ level. level.items) in
    level_items levels level below l e ∙ level_in h (map (λ level. level.items) levels) level a (omega (arith, size, l)) ∙ ap (λ n. level_at h n level) is

-- higher up no node has two children
pub none_higher : (h : List ℕ → List ℕ) (leaves : List (List ℕ)) (levels : List (Vec (List ℕ) Global)) (level place : ℕ)
    → AreLevels h (map (λ level. level.items) levels) → lowest (map (λ level. level.items) levels) ≡ leaves → length levels < level → HasChildren h leaves level place → ⊥
none_higher h leaves levels level place a is l two =
    let size = length-map levels (λ level. level.items) in
    let one = level_past h (map (λ level. level.items) levels) (level - 1) a (omega (arith, size, l)) in
    let same = ap (λ n. length (level_at h n (level - 1))) is in
    let both = two.1 in
    absurd (omega (arith, one, same, both))

-- two digests that stand at the places of the children are those of the children
pub pair_found : (h : List ℕ → List ℕ) (leaves nodes : List (List ℕ)) (level place : ℕ) (left right d e : List ℕ) → nodes ≡ level_at h leaves (level - 1)
    → HasChildren h leaves level place → left ≡ slice_index_or nodes (2 * place) d → right ≡ slice_index_or nodes (2 * place + 1) e
    → AreChildrenOf h leaves level place left right
pair_found h leaves nodes level place left right d e is two l r =
    let size = ap length is in
    let both = two.1 in
    let first = l ∙ same_item nodes (2 * place) d [] (omega (arith, size, both)) ∙ ap (λ n. slice_index_or n (2 * place) []) is in
    let second = r ∙ same_item nodes (2 * place + 1) e [] (omega (arith, size, both)) ∙ ap (λ n. slice_index_or n (2 * place + 1) []) is in
    let made = children_of h leaves level place two in
    record {
      is_left = first;
      is_right = second;
      node = ap (λ n. h (node_message n right)) first ∙ ap (λ n. h (node_message (node_at h leaves (level - 1) (2 * place)) n)) second ∙ made.node;
    }
