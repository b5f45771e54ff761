-- Ways down a tree whose leaves are known, by its own pairs.
use Rattle.std.proofs.Common.{◌≡◌, ℕ, zero, suc, ◌+◌, ◌-◌, ◌*◌, ◌^◌, ◌<◌, ◌≤◌, inl, inr, List, [], ◌∷◌, ◌++◌, drop, length, length-append, append_assoc, refl, sym, ap, ◌∙◌, subst, arith, true, false, Some}
use Rattle.std.specs.Prelude.{nat_lt, slice_get, slice_index_or}
use Rattle.std.specs.List.{flat_map}
use Rattle.std.proofs.lemmas.List.{append-nil, drop-drop}
use Rattle.std.proofs.lemmas.List.Elements.{All-cons, All-nil}
use Rattle.hash_trees.specs.declared.descent.Node.{Node}
use Rattle.hash_trees.specs.Trees.{above, half, root, root_above}
use Rattle.hash_trees.specs.TreeLevels.{AreChildrenOf, HasChildren, level_at, node_at}
use Rattle.hash_trees.specs.Descents.{AreChildren, IsWay, Way, WaysStay, left_child, lowered, nodes_at, pair_place, passed, right_child}
use Rattle.hash_trees.specs.TreePairs.{IsTaken, IsWayOf, PairsLeadDown, RootsLeadDown, pairs_under, tree_pairs}
use Rattle.hash_trees.proofs.Enough.{below_power, one_le_power}
use Rattle.hash_trees.proofs.Levels.{length-above, last_at}
use Rattle.hash_trees.proofs.LevelsOfTrees.{level_up}
use Rattle.hash_trees.proofs.LoweredNodes.{IsOver, below_false, below_true, both_there, has_node, less_or_not, lowered_here, lowered_digest, lowered_down, one_less, over_down, over_left, over_right}
use Rattle.hash_trees.proofs.WaysDown.{none_behind, one_leaf, pair_entered, pair_passed, stands_over, top_over, way_entered, way_from_top, way_passed}

-- the levels of a tree have the nodes over its leaves
pub length-level_at : (h : List ℕ → List ℕ) (leaves : List (List ℕ)) (level : ℕ) → length (level_at h leaves level) ≡ nodes_at (length leaves) level
length-level_at h leaves zero = refl
length-level_at h leaves (suc level) = length-above h (level_at h leaves level) ∙ ap half (length-level_at h leaves level)

-- the pairs from a node with two children down, and from one that goes up as it is
pairs_two : (h : List ℕ → List ℕ) (leaves : List (List ℕ)) (level place : ℕ) → 2 * place + 1 < nodes_at (length leaves) level
    → pairs_under h leaves (suc level) place
    ≡ (node_at h leaves level (2 * place), node_at h leaves level (2 * place + 1)) ∷ (pairs_under h leaves level (2 * place) ++ pairs_under h leaves level (2 * place + 1))
pairs_two h leaves level place two =
    let size = length-level_at h leaves level in
    let t : nat_lt (2 * place + 1) (length (level_at h leaves level)) ≡ true = below_true (2 * place + 1) (length (level_at h leaves level)) (omega (arith, size, two)) in
    rw t refl

pairs_one : (h : List ℕ → List ℕ) (leaves : List (List ℕ)) (level place : ℕ) → 2 * place + 1 ≡ nodes_at (length leaves) level
    → pairs_under h leaves (suc level) place ≡ pairs_under h leaves level (2 * place)
pairs_one h leaves level place one =
    let size = length-level_at h leaves level in
    let f : nat_lt (2 * place + 1) (length (level_at h leaves level)) ≡ false = below_false (2 * place + 1) (length (level_at h leaves level)) (omega (arith, size, one)) in
    rw f refl

node_one : (h : List ℕ → List ℕ) (leaves : List (List ℕ)) (level place : ℕ) → 2 * place + 1 ≡ nodes_at (length leaves) level
    → node_at h leaves (suc level) place ≡ node_at h leaves level (2 * place)
node_one h leaves level place one = last_at h (level_at h leaves level) place (one ∙ sym (length-level_at h leaves level))

-- as it is lowered a node of the tree stays one, with the same pairs from it down
pub lowered_node : (h : List ℕ → List ℕ) (leaves : List (List ℕ)) (n level place : ℕ) (d : List ℕ) → IsOver (length leaves) n level place
    → node_at h leaves (lowered n level place d).level (lowered n level place d).place ≡ node_at h leaves level place
unfolding lowered
lowered_node h leaves n zero place d over = refl
lowered_node h leaves n (suc level) place d over = elim (less_or_not (2 ^ level) n) [
  | inl more ↦ rw (below_true (2 ^ level) n more) refl
  | inr few ↦
      let lower = over_down (length leaves) n level place few over in
      rw (below_false (2 ^ level) n few) (lowered_node h leaves n level (2 * place) d lower.0 ∙ sym (node_one h leaves level place lower.1))
]

pub lowered_pairs : (h : List ℕ → List ℕ) (leaves : List (List ℕ)) (n level place : ℕ) (d : List ℕ) → IsOver (length leaves) n level place
    → pairs_under h leaves (lowered n level place d).level (lowered n level place d).place ≡ pairs_under h leaves level place
lowered_pairs h leaves n zero place d over = ap (λ node. pairs_under h leaves node.level node.place) (lowered_here n zero place d (λ some. absurd (omega (arith, some))))
lowered_pairs h leaves n (suc level) place d over = elim (less_or_not (2 ^ level) n) [
  | inl more ↦ ap (λ node. pairs_under h leaves node.level node.place) (lowered_here n (suc level) place d (λ some. rw (one_less level) more))
  | inr few ↦
      let lower = over_down (length leaves) n level place few over in
      ap (λ node. pairs_under h leaves node.level node.place) (lowered_down n level place d few)
      ∙ lowered_pairs h leaves n level (2 * place) d lower.0 ∙ sym (pairs_one h leaves level place lower.1)
]

two_parts : (n p a b : ℕ) → 1 ≤ p → p < n → a ≡ p - 1 → b ≡ n - p - 1 → suc (a + b) ≡ n - 1
two_parts n p a b some two l r = omega (arith, some, two, l, r)

-- from a node down there is a pair for each leaf but one
pub length-pairs_under : (h : List ℕ → List ℕ) (leaves : List (List ℕ)) (n level place : ℕ) → IsOver (length leaves) n level place → length (pairs_under h leaves level place) ≡ n - 1
length-pairs_under h leaves n zero place over =
    let one = one_leaf (length leaves) place n (let w = over.within in omega (arith, w)) over.all in
    omega (arith, one)
length-pairs_under h leaves n (suc level) place over = elim (less_or_not (2 ^ level) n) [
  | inl more ↦
      let left = length-pairs_under h leaves (2 ^ level) level (2 * place) (over_left (length leaves) n level place more over) in
      let right = length-pairs_under h leaves (n - 2 ^ level) level (2 * place + 1) (over_right (length leaves) n level place more over) in
      ap length (pairs_two h leaves level place (both_there (length leaves) n level place more over))
      ∙ ap suc (length-append (pairs_under h leaves level (2 * place)) (pairs_under h leaves level (2 * place + 1)))
      ∙ two_parts n (2 ^ level) (length (pairs_under h leaves level (2 * place))) (length (pairs_under h leaves level (2 * place + 1))) (one_le_power level) more left right
  | inr few ↦
      let lower = over_down (length leaves) n level place few over in
      ap length (pairs_one h leaves level place lower.1) ∙ length-pairs_under h leaves n level (2 * place) lower.0
]

pub ways_stay : WaysStay
ways_stay h way left right is = ((way_passed h way is).0, λ children. (way_entered h way left right children is).0)

root_at : (h : List ℕ → List ℕ) (k : ℕ) (leaves : List (List ℕ)) → root_above h k leaves ≡ node_at h leaves k 0
unfolding root_above
root_at h zero leaves = refl
root_at h (suc k) leaves = root_at h k (above h leaves) ∙ ap (λ level. slice_index_or level 0 []) (level_up h leaves k)

pub roots_lead_down : RootsLeadDown
roots_lead_down h leaves some =
    let top = root h leaves in
    let n = length leaves in
    let way = way_from_top h n top some in
    let over = top_over n n some (below_power n) in
    let node : (lowered n n 0 top).digest ≡ node_at h leaves (lowered n n 0 top).level (lowered n n 0 top).place =
    lowered_digest n n 0 top ∙ root_at h n leaves ∙ sym (lowered_node h leaves n n 0 top over) in
    let none = none_behind h n top some in (
      way.0,
      record {
        count = refl;
        nodes = All-cons (λ (node : Node). node.digest ≡ node_at h leaves node.level node.place) (lowered n n 0 top) [] node (All-nil (λ (node : Node). node.digest ≡ node_at h leaves node.level node.place));
        pairs =
            ap (λ k. drop k (tree_pairs h leaves)) none ∙ sym (lowered_pairs h leaves n n 0 top over)
            ∙ sym (append-nil (pairs_under h leaves (lowered n n 0 top).level (lowered n n 0 top).place));
      },
    )

drop_front : (xs ys : List (List ℕ × List ℕ)) (n : ℕ) → length xs ≡ n → drop n (xs ++ ys) ≡ ys
drop_front [] ys n e = ap (λ k. drop k ys) (sym e)
drop_front (x ∷ xs) ys n e = ap (λ k. drop k ((x ∷ xs) ++ ys)) (sym e) ∙ drop_front xs ys (length xs) refl

first_there : (n : ℕ) (xs ys : List (List ℕ × List ℕ)) (x : List ℕ × List ℕ) → drop n xs ≡ x ∷ ys → slice_get xs n ≡ Some x
first_there zero [] ys x e = cc
first_there zero (y ∷ xs) ys x e = let same : y ≡ x = cc in ap Some same
first_there (suc n) [] ys x e = cc
first_there (suc n) (y ∷ xs) ys x e = first_there n xs ys x e

-- of a node with two children: the right one, and the pairs from it down
right_over : (count n level place : ℕ) → 0 < level → (0 < level → 2 ^ (level - 1) < n) → IsOver count n level place → IsOver count (n - 2 ^ (level - 1)) (level - 1) (2 * place + 1)
right_over count n zero place some two over = absurd (omega (arith, some))
right_over count n (suc level) place some two over =
    let more = subst (λ k. 2 ^ k < n) (one_less level) (two some) in
    subst (λ k. IsOver count (n - 2 ^ k) k (2 * place + 1)) (sym (one_less level)) (over_right count n level place more over)

pairs_down : (h : List ℕ → List ℕ) (leaves : List (List ℕ)) (level place : ℕ) → 0 < level → 2 * place + 1 < nodes_at (length leaves) (level - 1)
    → pairs_under h leaves level place
    ≡ (node_at h leaves (level - 1) (2 * place), node_at h leaves (level - 1) (2 * place + 1)) ∷ (pairs_under h leaves (level - 1) (2 * place) ++ pairs_under h leaves (level - 1) (2 * place + 1))
pairs_down h leaves zero place some two = absurd (omega (arith, some))
pairs_down h leaves (suc level) place some two =
    subst
    (λ k.
    pairs_under h leaves (suc level) place
    ≡ (node_at h leaves k (2 * place), node_at h leaves k (2 * place + 1)) ∷ (pairs_under h leaves k (2 * place) ++ pairs_under h leaves k (2 * place + 1)))
    (sym (one_less level)) (pairs_two h leaves level place (subst (λ k. 2 * place + 1 < nodes_at (length leaves) k) (one_less level) two))

-- behind its first node a way down the tree is one too
behind : (h : List ℕ → List ℕ) (leaves : List (List ℕ)) (count : ℕ) (top : List ℕ) (node : Node) (later : List Node)
    → IsWay h (record { count = count; top = top; nodes = node ∷ later }) → IsWayOf h leaves (record { count = count; top = top; nodes = node ∷ later })
    → IsOver (length leaves) node.leaves node.level node.place → IsWayOf h leaves (record { count = count; top = top; nodes = later })
behind h leaves count top node later is of over =
    let way : Way = record { count = count; top = top; nodes = node ∷ later } in
    let pairs = pairs_under h leaves node.level node.place in
    let rest = flat_map (λ (node : Node). pairs_under h leaves node.level node.place) later in
    record {
      count = of.count;
      nodes = λ k d l. of.nodes (suc k) d (omega (arith, l));
      pairs =
          ap (λ k. drop k (tree_pairs h leaves)) (pair_passed h way is) ∙ sym (drop-drop (node.leaves - 1) (pair_place way) (tree_pairs h leaves))
          ∙ ap (drop (node.leaves - 1)) of.pairs ∙ drop_front pairs rest (node.leaves - 1) (length-pairs_under h leaves node.leaves node.level node.place over);
    }

-- at its first node the pair of the tree is taken
taken : (h : List ℕ → List ℕ) (leaves : List (List ℕ)) (count : ℕ) (top : List ℕ) (node : Node) (later : List Node) (left right : List ℕ)
    → IsWay h (record { count = count; top = top; nodes = node ∷ later }) → IsWayOf h leaves (record { count = count; top = top; nodes = node ∷ later })
    → IsOver (length leaves) node.leaves node.level node.place → 0 < node.level → AreChildrenOf h leaves node.level node.place left right
    → IsTaken h leaves (record { count = count; top = top; nodes = node ∷ later }) left right
taken h leaves count top node later left right is of over some children =
    let way : Way = record { count = count; top = top; nodes = node ∷ later } in
    let k = node.level - 1 in
    let n = node.leaves - 2 ^ k in
    let all = tree_pairs h leaves in
    let f = λ (node : Node). pairs_under h leaves node.level node.place in
    let P = λ (node : Node). node.digest ≡ node_at h leaves node.level node.place in
    let rest = flat_map f later in
    let right_is = right_over (length leaves) node.leaves node.level node.place some is.1.1.two over in
    let both = has_node (length leaves) k (2 * node.place + 1) right_is.within in
    let lower = pairs_under h leaves k (2 * node.place) in
    let beside = pairs_under h leaves k (2 * node.place + 1) in
    let down = pairs_down h leaves node.level node.place some both in
    let here : drop (pair_place way) all ≡ (left, right) ∷ ((lower ++ beside) ++ rest) =
    of.pairs ∙ ap (λ l. l ++ rest) down
    ∙ ap (λ l. (l, node_at h leaves k (2 * node.place + 1)) ∷ ((lower ++ beside) ++ rest)) (sym children.is_left)
    ∙ ap (λ r. (left, r) ∷ ((lower ++ beside) ++ rest)) (sym children.is_right) in
    let mine : AreChildren h way.nodes left right = (some, children.node ∙ sym (of.nodes 0 node (omega arith))) in
    let right_node : P (right_child node right) =
    lowered_digest n k (2 * node.place + 1) right ∙ children.is_right ∙ sym (lowered_node h leaves n k (2 * node.place + 1) right right_is) in
    let right_pairs : f (right_child node right) ≡ beside = lowered_pairs h leaves n k (2 * node.place + 1) right right_is in
    record {
      place = first_there (pair_place way) all ((lower ++ beside) ++ rest) (left, right) here;
      children = mine;
      down = record {
        count = of.count;
        nodes =
            All-cons P (left_child node left) (right_child node right ∷ later) children.is_left
            (All-cons P (right_child node right) later right_node (λ k d l. of.nodes (suc k) d (omega (arith, l))));
        pairs =
            ap (λ k. drop k all) (pair_entered h way left right mine is) ∙ sym (drop-drop 1 (pair_place way) all) ∙ ap (drop 1) here
            ∙ append_assoc lower beside rest ∙ ap (λ l. lower ++ (l ++ rest)) (sym right_pairs);
      };
    }

children_there : (h : List ℕ → List ℕ) (leaves : List (List ℕ)) (n level place : ℕ) → IsOver (length leaves) n level place → 0 < level → (0 < level → 2 ^ (level - 1) < n)
    → HasChildren h leaves level place
children_there h leaves n level place over some two =
    let both = has_node (length leaves) (level - 1) (2 * place + 1) (right_over (length leaves) n level place some two over).within in
    let size = length-level_at h leaves (level - 1) in
    (omega (arith, some), omega (arith, both, size))

pub pairs_lead_down : PairsLeadDown
pairs_lead_down h leaves way node later left right is of nodes =
    let same : way ≡ record { count = way.count; top = way.top; nodes = node ∷ later } = ap (λ l. record { count = way.count; top = way.top; nodes = l }) nodes in
    let here = subst (λ w. IsWay h w) same is in
    let there = subst (λ w. IsWayOf h leaves w) same of in
    let over = subst (λ n. IsOver n node.leaves node.level node.place) of.count (stands_over h way.count way.top node here.1.1) in (
      subst (λ w. IsWayOf h leaves (passed w)) (sym same) (behind h leaves way.count way.top node later here there over),
      λ some. children_there h leaves node.leaves node.level node.place over some here.1.1.two,
      λ some children. subst (λ w. IsTaken h leaves w left right) (sym same) (taken h leaves way.count way.top node later left right here there over some children),
    )
