-- Binary trees of digests. h is the hash function, from messages to digests; the code has SHA-512/256. Each level is the list of its nodes
-- from left to right, and the lowest level has the leaves.
use Rattle.std.specs.Prelude.{◌≡◌, ℕ, zero, suc, ◌+◌, ◌-◌, ◌/◌, ◌%◌, ◌==◌, ◌&&◌, Bool, MatchBool, if◌then◌else◌, List, [], ◌∷◌, ◌++◌, slice_index_or, length}

-- what is hashed for a leaf: a byte of zero, and the record
abbrev pub leaf_message : List ℕ → List ℕ
leaf_message content = 0 ∷ content

-- what is hashed for a node with two nodes below it: a byte of one, and their digests
abbrev pub node_message : List ℕ → List ℕ → List ℕ
node_message left right = 1 ∷ (left ++ right)

-- the level above: a node for each two nodes, and the last one itself where it has no neighbour
abbrev pub above : (List ℕ → List ℕ) → List (List ℕ) → List (List ℕ)
above h [] = []
above h (last ∷ []) = last ∷ []
above h (left ∷ (right ∷ rest)) = h (node_message left right) ∷ above h rest

-- the first node of the level k levels above
unfoldable pub root_above : (List ℕ → List ℕ) → ℕ → List (List ℕ) → List ℕ
root_above h zero level = slice_index_or level 0 []
root_above h (suc k) level = root_above h k (above h level)

-- the root of a tree with these leaves: the only node as many levels above as there are leaves; of no leaf it is empty
abbrev pub root : (List ℕ → List ℕ) → List (List ℕ) → List ℕ
root h leaves = root_above h (length leaves) leaves

-- how many nodes the level above n nodes has
abbrev pub half : ℕ → ℕ
half n = (n + 1) / 2

-- the node at place i of n has no neighbour: it is a left one, and the last
unfoldable pub is_alone : ℕ → ℕ → Bool
is_alone n i = (i % 2 == 0) && (i + 1 == n)

-- the place of the neighbour of the node at place i
abbrev pub neighbour : ℕ → ℕ
neighbour i = if i % 2 == 0 then i + 1 else i - 1

-- what is hashed for the node above the one at place i, from its digest and the digest of its neighbour
abbrev pub step_message : ℕ → List ℕ → List ℕ → List ℕ
step_message i digest other = if i % 2 == 0 then node_message digest other else node_message other digest

-- the digests of the neighbours on the way up from place i of a level, for k levels
unfoldable pub path_above : (List ℕ → List ℕ) → ℕ → List (List ℕ) → ℕ → List (List ℕ)
path_above h zero level i = []
path_above h (suc k) level i =
    if is_alone (length level) i then path_above h k (above h level) (i / 2)
    else (slice_index_or level (neighbour i) [] ∷ path_above h k (above h level) (i / 2))

-- the path from the leaf at this index up to the root: the digests of the neighbours, from below
abbrev pub path : (List ℕ → List ℕ) → List (List ℕ) → ℕ → List (List ℕ)
path h leaves index = path_above h (length leaves) leaves index

-- from the digest at place i of n nodes a path leads k levels up to this top, and is used up there
unfoldable pub LeadsAbove : (List ℕ → List ℕ) → ℕ → ℕ → ℕ → List ℕ → List (List ℕ) → List ℕ → Type 0
LeadsAbove h zero n i digest [] top = digest ≡ top
LeadsAbove h zero n i digest (other ∷ others) top = ⊥
LeadsAbove h (suc k) n i digest [] top = MatchBool (is_alone n i) (LeadsAbove h k (half n) (i / 2) digest [] top) ⊥
LeadsAbove h (suc k) n i digest (other ∷ others) top =
    MatchBool (is_alone n i) (LeadsAbove h k (half n) (i / 2) digest (other ∷ others) top)
    (LeadsAbove h k (half n) (i / 2) (h (step_message i digest other)) others top)

-- from the digest at place i of n nodes a path leads up to this root
abbrev pub LeadsTo : (List ℕ → List ℕ) → ℕ → ℕ → List ℕ → List (List ℕ) → List ℕ → Type 0
LeadsTo h n i digest others top = LeadsAbove h n n i digest others top

-- the messages that are hashed on the way k levels up by a path
unfoldable pub hashed_above : (List ℕ → List ℕ) → ℕ → ℕ → ℕ → List ℕ → List (List ℕ) → List (List ℕ)
hashed_above h zero n i digest others = []
hashed_above h (suc k) n i digest [] = if is_alone n i then hashed_above h k (half n) (i / 2) digest [] else []
hashed_above h (suc k) n i digest (other ∷ others) =
    if is_alone n i then hashed_above h k (half n) (i / 2) digest (other ∷ others)
    else (step_message i digest other ∷ hashed_above h k (half n) (i / 2) (h (step_message i digest other)) others)

-- the messages that are hashed on the way from the digest at place i of n nodes up to the root
abbrev pub on_path : (List ℕ → List ℕ) → ℕ → ℕ → List ℕ → List (List ℕ) → List (List ℕ)
on_path h n i digest others = hashed_above h n n i digest others

-- the messages that are hashed for the level above
abbrev pub on_level : List (List ℕ) → List (List ℕ)
on_level [] = []
on_level (last ∷ []) = []
on_level (left ∷ (right ∷ rest)) = node_message left right ∷ on_level rest

-- the messages that are hashed for the node k levels above
unfoldable pub levels_above : (List ℕ → List ℕ) → ℕ → List (List ℕ) → List (List ℕ)
levels_above h zero level = []
levels_above h (suc k) level = on_level level ++ levels_above h k (above h level)

-- the messages that are hashed for the root of a tree with these leaves
abbrev pub in_tree : (List ℕ → List ℕ) → List (List ℕ) → List (List ℕ)
in_tree h leaves = levels_above h (length leaves) leaves
