-- All levels of a tree, from the lowest one up.
use Rattle.std.specs.Prelude.{◌≡◌, ℕ, zero, suc, ◌+◌, ◌-◌, ◌*◌, ◌<◌, ◌≤◌, List, [], ◌∷◌, length, slice_index_or}
use Rattle.hash_trees.specs.Trees.{above, node_message}

-- the lowest of these levels
abbrev pub lowest : List (List (List ℕ)) → List (List ℕ)
lowest levels = slice_index_or levels 0 []

-- each level but the last has two nodes at least, and the next level is the one above it; the last has one node
abbrev pub AreLevels : (List ℕ → List ℕ) → List (List (List ℕ)) → Type 0
AreLevels h [] = ⊥
AreLevels h (level ∷ []) = length level ≡ 1
AreLevels h (level ∷ (next ∷ higher)) = (2 ≤ length level) × (next ≡ above h level) × AreLevels h (next ∷ higher)

-- the level that is so many levels above these leaves
abbrev pub level_at : (List ℕ → List ℕ) → List (List ℕ) → ℕ → List (List ℕ)
level_at h leaves zero = leaves
level_at h leaves (suc level) = above h (level_at h leaves level)

-- the digest of the node at this place of this level of the tree with these leaves
abbrev pub node_at : (List ℕ → List ℕ) → List (List ℕ) → ℕ → ℕ → List ℕ
node_at h leaves level place = slice_index_or (level_at h leaves level) place []

-- the node at this place of this level has two children
abbrev pub HasChildren : (List ℕ → List ℕ) → List (List ℕ) → ℕ → ℕ → Type 0
HasChildren h leaves level place = (1 ≤ level) × (2 * place + 1 < length (level_at h leaves (level - 1)))

-- these are the digests of the children of the node at this place of this level, and the digest of the node is made of them
pub record AreChildrenOf (h : List ℕ → List ℕ) (leaves : List (List ℕ)) (level place : ℕ) (left right : List ℕ) : Type 0 where
  pub is_left : left ≡ node_at h leaves (level - 1) (2 * place)
  pub is_right : right ≡ node_at h leaves (level - 1) (2 * place + 1)
  pub node : h (node_message left right) ≡ node_at h leaves level place
