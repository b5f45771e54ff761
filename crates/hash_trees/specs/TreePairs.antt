-- The pairs of a tree in order, and the way down a tree by its own pairs.
use Rattle.std.specs.Prelude.{◌≡◌, ℕ, zero, suc, ◌+◌, ◌*◌, ◌<◌, ◌≤◌, nat_lt, if◌then◌else◌, List, [], ◌∷◌, ◌++◌, All, Some, drop, length, slice_get}
use Rattle.std.specs.List.{flat_map}
use Rattle.hash_trees.specs.declared.descent.Node.{Node}
use Rattle.hash_trees.specs.Trees.{root}
use Rattle.hash_trees.specs.TreeLevels.{AreChildrenOf, HasChildren, level_at, node_at}
use Rattle.hash_trees.specs.Descents.{AreChildren, IsWay, Way, entered, from_top, pair_place, passed}

-- the pairs from this place of this level down: the pair of the node, if it has two children, then all from its left child down, then all from its
-- right child down
abbrev pub pairs_under : (List ℕ → List ℕ) → List (List ℕ) → ℕ → ℕ → List (List ℕ × List ℕ)
pairs_under h leaves zero place = []
pairs_under h leaves (suc level) place =
    if nat_lt (2 * place + 1) (length (level_at h leaves level)) then ((node_at h leaves level (2 * place), node_at h leaves level (2 * place + 1)) ∷ (pairs_under h leaves level (2 * place) ++ pairs_under h leaves level (2 * place + 1)))
    else pairs_under h leaves level (2 * place)

-- all pairs of the tree with these leaves, the pair of the root first
abbrev pub tree_pairs : (List ℕ → List ℕ) → List (List ℕ) → List (List ℕ × List ℕ)
tree_pairs h leaves = pairs_under h leaves (length leaves) 0

-- a way down the tree with these leaves: its nodes are of that tree, and the pairs from them down are all pairs of it from this place on
pub record IsWayOf (h : List ℕ → List ℕ) (leaves : List (List ℕ)) (way : Way) : Type 0 where
  pub count : way.count ≡ length leaves
  pub nodes : All (λ node. node.digest ≡ node_at h leaves node.level node.place) way.nodes
  pub pairs : drop (pair_place way) (tree_pairs h leaves) ≡ flat_map (λ node. pairs_under h leaves node.level node.place) way.nodes

-- the way down from the root of some leaves is a way down their tree
abbrev pub RootsLeadDown : Type 0
RootsLeadDown =
    (h : List ℕ → List ℕ) (leaves : List (List ℕ)) → 1 ≤ length leaves
    → IsWay h (from_top (root h leaves) (length leaves)) × IsWayOf h leaves (from_top (root h leaves) (length leaves))

-- at a node with two children the pair of the tree is the one at the place of that node; it is taken, and the way further down is one down the tree
pub record IsTaken (h : List ℕ → List ℕ) (leaves : List (List ℕ)) (way : Way) (left right : List ℕ) : Type 0 where
  pub place : slice_get (tree_pairs h leaves) (pair_place way) ≡ Some (left, right)
  pub children : AreChildren h way.nodes left right
  pub down : IsWayOf h leaves (entered way left right)

-- on a way down a tree each node that is no leaf has two children in the tree, and this pair is taken; behind a node that is passed it is a way
-- down the tree too
abbrev pub PairsLeadDown : Type 0
PairsLeadDown =
    (h : List ℕ → List ℕ) (leaves : List (List ℕ)) (way : Way) (node : Node) (later : List Node) (left right : List ℕ)
    → IsWay h way → IsWayOf h leaves way → way.nodes ≡ node ∷ later
    → IsWayOf h leaves (passed way)
    × (0 < node.level → HasChildren h leaves node.level node.place)
    × (0 < node.level → AreChildrenOf h leaves node.level node.place left right → IsTaken h leaves way left right)
