-- The way down a tree, by the digests of the two children of each node.
use Rattle.std.specs.Prelude.{◌≡◌, ℕ, zero, suc, ◌+◌, ◌-◌, ◌*◌, ◌^◌, ◌<◌, ◌≤◌, min, nat_lt, if◌then◌else◌, List, [], ◌∷◌, drop, length, sum_by}
use Rattle.hash_trees.specs.declared.descent.Node.{Node}
use Rattle.hash_trees.specs.Trees.{half, node_message}
use Rattle.hash_trees.specs.Binding.{IsLeafUnder}

-- how many nodes the level has that is so many levels above the leaves
abbrev pub nodes_at : ℕ → ℕ → ℕ
nodes_at count zero = count
nodes_at count (suc level) = half (nodes_at count level)

-- by some path the node at this place of this level of a tree over `count` leaves is under the top
abbrev pub IsNodeUnder : (List ℕ → List ℕ) → ℕ → ℕ → ℕ → List ℕ → List ℕ → Type 0
IsNodeUnder h count level place digest top = (others : List (List ℕ)) × IsLeafUnder h (nodes_at count level) place digest others top

-- the index of the first leaf below a node
abbrev pub first_below : Node → ℕ
first_below node = node.place * 2 ^ node.level

-- how many of `count` leaves are below the node at this place of this level
abbrev pub leaves_below : ℕ → ℕ → ℕ → ℕ
leaves_below count level place = min count ((place + 1) * 2 ^ level) - place * 2 ^ level

-- the node over so many leaves at this place of this level, at the level where it has two children, or is a leaf
unfoldable pub lowered : ℕ → ℕ → ℕ → List ℕ → Node
lowered leaves zero place digest = record { level = zero; place = place; leaves = leaves; digest = digest }
lowered leaves (suc level) place digest =
    if nat_lt (2 ^ level) leaves then record { level = suc level; place = place; leaves = leaves; digest = digest }
    else lowered leaves level (2 * place) digest

-- the left child of a node, with this digest: all leaves of its level are there
abbrev pub left_child : Node → List ℕ → Node
left_child node digest = record { level = node.level - 1; place = 2 * node.place; leaves = 2 ^ (node.level - 1); digest = digest }

-- the right child of a node, with this digest
abbrev pub right_child : Node → List ℕ → Node
right_child node digest = lowered (node.leaves - 2 ^ (node.level - 1)) (node.level - 1) (2 * node.place + 1) digest

-- a way down a tree: the number of its leaves, its top, and the nodes that are still to come, from left to right
pub record Way : Type 0 where
  pub count : ℕ
  pub top : List ℕ
  pub nodes : List Node

-- the way down from the top of a tree with so many leaves
abbrev pub from_top : List ℕ → ℕ → Way
from_top top count = record { count = count; top = top; nodes = lowered count count 0 top ∷ [] }

-- the nodes to come, where the first one gives way to its children with these digests
abbrev pub entered_nodes : List Node → List ℕ → List ℕ → List Node
entered_nodes [] left right = []
entered_nodes (node ∷ later) left right = left_child node left ∷ (right_child node right ∷ later)

-- the way further down, from the children of the first node, with these digests
abbrev pub entered : Way → List ℕ → List ℕ → Way
entered way left right = record way { nodes = entered_nodes way.nodes left right }

-- the way behind the first node
abbrev pub passed : Way → Way
passed way = record way { nodes = drop 1 way.nodes }

-- these are the digests of the two children of the first node
abbrev pub AreChildren : (List ℕ → List ℕ) → List Node → List ℕ → List ℕ → Type 0
AreChildren h [] left right = ⊥
AreChildren h (node ∷ later) left right = (0 < node.level) × (h (node_message left right) ≡ node.digest)

-- the index of the first leaf that is still to come
abbrev pub first_of : ℕ → List Node → ℕ
first_of count [] = count
first_of count (node ∷ later) = first_below node

-- the index of the first leaf that is still to come; behind the last one it is their number
abbrev pub first_leaf : Way → ℕ
first_leaf way = first_of way.count way.nodes

-- how many leaves are below the first node; behind the last one none
abbrev pub first_leaves : List Node → ℕ
first_leaves [] = 0
first_leaves (node ∷ later) = node.leaves

-- how many nodes with two children there are below these nodes, and among them
abbrev pub pairs_below : List Node → ℕ
pairs_below nodes = sum_by (λ node. node.leaves - 1) nodes

-- how many pairs come before the pair of the first node: all but those that are still to come
abbrev pub pair_place : Way → ℕ
pair_place way = (way.count - 1) - pairs_below way.nodes

-- a node as a way comes to it: it has leaves, it has two children or is a leaf, and it is under the top
pub record Stands (h : List ℕ → List ℕ) (count : ℕ) (top : List ℕ) (node : Node) : Type 0 where
  pub within : first_below node < count
  pub leaves : node.leaves ≡ leaves_below count node.level node.place
  pub two : 0 < node.level → 2 ^ (node.level - 1) < node.leaves
  pub under : IsNodeUnder h count node.level node.place node.digest top

-- from this leaf on these nodes have all leaves, in order
abbrev pub FollowFrom : (List ℕ → List ℕ) → ℕ → List ℕ → ℕ → List Node → Type 0
FollowFrom h count top first [] = first ≡ count
FollowFrom h count top first (node ∷ later) = (first_below node ≡ first) × Stands h count top node × FollowFrom h count top (first + node.leaves) later

-- the level of the top of a tree with so many leaves
abbrev pub height : ℕ → ℕ
height count = (lowered count count 0 []).level

-- behind each of these nodes are at most as many as there are levels from its own one up to this one
abbrev pub AreFew : ℕ → List Node → Type 0
AreFew highest [] = Unit {0}
AreFew highest (node ∷ later) = (node.level + length later ≤ highest) × AreFew highest later

-- the nodes of a way are under its top, have all leaves from the first one on, in order, and are no more than the levels of the tree
abbrev pub IsWay : (List ℕ → List ℕ) → Way → Type 0
IsWay h way = (1 ≤ way.count) × FollowFrom h way.count way.top (first_leaf way) way.nodes × AreFew (height way.count) way.nodes

-- what stays on the way down, whatever pairs come: its nodes are under its top, and have all leaves that are still to come
abbrev pub WaysStay : Type 0
WaysStay =
    (h : List ℕ → List ℕ) (way : Way) (left right : List ℕ) → IsWay h way
    → IsWay h (passed way) × (AreChildren h way.nodes left right → IsWay h (entered way left right))
