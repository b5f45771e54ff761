-- How many digests a path has.
use Rattle.std.specs.Prelude.{◌≡◌, ℕ, zero, suc, ◌/◌, ◌<◌, if◌then◌else◌, List, length}
use Rattle.hash_trees.specs.Trees.{LeadsTo, half, is_alone}

-- on how many of k levels, from the one with n nodes on, the node on the way up from place i has a neighbour
unfoldable pub steps_above : ℕ → ℕ → ℕ → ℕ
steps_above zero n i = 0
steps_above (suc k) n i = if is_alone n i then steps_above k (half n) (i / 2) else suc (steps_above k (half n) (i / 2))

-- how many digests the path from place i of n leaves up to the root has
abbrev pub path_steps : ℕ → ℕ → ℕ
path_steps n i = steps_above n n i

-- a path that leads up to a root has just as many digests as there are steps
abbrev pub PathsHaveTheirSteps : Type 0
PathsHaveTheirSteps =
    (h : List ℕ → List ℕ) (n i : ℕ) (digest : List ℕ) (others : List (List ℕ)) (top : List ℕ) → i < n → LeadsTo h n i digest others top
    → length others ≡ path_steps n i
