-- Ways down a tree: where they begin, and what a step does to them.
use Rattle.std.proofs.Common.{◌≡◌, ℕ, zero, suc, ◌+◌, ◌-◌, ◌*◌, ◌^◌, ◌<◌, ◌≤◌, ◌↔◌, ◌⊎◌, inl, inr, min, List, [], ◌∷◌, ◌++◌, length, drop, reverse, refl, sym, ap, ◌∙◌, subst, arith, Option, Some, None, length-append}
use Rattle.std.specs.Prelude.{IfSome, slice_get, slice_set}
use Rattle.std.proofs.Math.Pow.{pow-lt, pow_mono}
use Rattle.std.proofs.Math.Seq.{set-append_seam}
use Rattle.std.proofs.lemmas.List.Sums.{sum_by-cons}
use Rattle.std.proofs.lemmas.List.{append_assoc, reverse-append}
use Rattle.hash_trees.specs.declared.descent.Node.{Node}
use Rattle.hash_trees.specs.Trees.{node_message}
use Rattle.hash_trees.specs.Binding.{IsLeafUnder}
use Rattle.hash_trees.specs.Descents.{AreChildren, AreFew, FollowFrom, IsNodeUnder, IsWay, Stands, Way, entered, entered_nodes, first_below, first_leaf, first_leaves, first_of, from_top, height, leaves_below, left_child, lowered, nodes_at, pair_place, pairs_below, passed, right_child}
use Rattle.hash_trees.proofs.Enough.{below_power, one_le_power}
use Rattle.hash_trees.proofs.LoweredNodes.{IsOver, both_there, half_on, has_node, left_under, less_or_not, lowered_first, lowered_leaves, lowered_level, lowered_low, node_has, one_less, over_left, over_right, over_some, right_under, same_first, stands_lowered}
use Rattle.hash_trees.proofs.Steps.{leads_one}

one_of : (n : ℕ) → 0 < n → (1 < n → ⊥) → n ≡ 1
one_of n some none = elim (less_or_not 1 n) [ inl more ↦ absurd (none more) | inr few ↦ omega (arith, some, few) ]

-- high above some leaves there is one node
one_node : (count level : ℕ) → 1 ≤ count → count ≤ 2 ^ level → nodes_at count level ≡ 1
one_node count level some few =
    let first = has_node count level 0 (omega (arith, some)) in
    one_of (nodes_at count level) first (λ two. let over = node_has count level 1 two in omega (arith, over, few))

-- the top is under itself
top_under : (h : List ℕ → List ℕ) (count level : ℕ) (top : List ℕ) → 1 ≤ count → count ≤ 2 ^ level → IsNodeUnder h count level 0 top top
top_under h count level top some few =
    let one = one_node count level some few in
    let end = leads_one h (nodes_at count level) 0 top [] top (omega (arith, one)) (omega (arith, one)) in
    ([], (omega (arith, one), end.1 (refl, refl)))

all_leaves : (count p : ℕ) → count ≤ p → count ≡ min count ((0 + 1) * p) - 0 * p
all_leaves count p few = omega (arith, few)

pub top_over : (count level : ℕ) → 1 ≤ count → count ≤ 2 ^ level → IsOver count count level 0
top_over count level some few = record { within = omega (arith, some); all = all_leaves count (2 ^ level) few }

-- where the top alone waits, it is the only node
pub pushed_top : (pushed waiting : List Node) (node : Node) (count : ℕ) (top : List ℕ) → pushed ≡ waiting ++ node ∷ [] → waiting ≡ [] → node ≡ lowered count count 0 top
    → reverse pushed ≡ lowered count count 0 top ∷ []
pushed_top pushed waiting node count top e none is =
    ap reverse e ∙ ap (λ l. reverse (l ++ node ∷ [])) none ∙ ap (λ n. n ∷ []) is

pub top_stands : (h : List ℕ → List ℕ) (count : ℕ) (top : List ℕ) → 1 ≤ count → Stands h count top (lowered count count 0 top)
top_stands h count top some =
    let few = below_power count in
    stands_lowered h count top count count 0 top (top_over count count some few) (top_under h count count top some few)

pub way_from_top : (h : List ℕ → List ℕ) (count : ℕ) (top : List ℕ) → 1 ≤ count → IsWay h (from_top top count) × (first_leaf (from_top top count) ≡ 0)
way_from_top h count top some =
    let leaves = lowered_leaves count count 0 top in
    let first : first_below (lowered count count 0 top) ≡ 0 = lowered_first count count 0 top ∙ omega arith in
    let low = lowered_level count count 0 0 top [] in
    ((some, (refl, top_stands h count top some, omega (arith, leaves, first)), (omega (arith, low), tt)), first)

more_below : (level leaves : ℕ) → (0 < suc level → 2 ^ (suc level - 1) < leaves) → 2 ^ level < leaves
more_below level leaves two = subst (λ k. 2 ^ k < leaves) (one_less level) (two (omega arith))

lower_power : (level : ℕ) → 0 < level → 2 ^ (level - 1) < 2 ^ level
lower_power level some = pow-lt (omega (arith, some))

-- a node that a way comes to is over its leaves
pub stands_over : (h : List ℕ → List ℕ) (count : ℕ) (top : List ℕ) (node : Node) → Stands h count top node → IsOver count node.leaves node.level node.place
stands_over h count top node s = record { within = s.within; all = s.leaves }

left_stands : (h : List ℕ → List ℕ) (count : ℕ) (top : List ℕ) (level place leaves : ℕ) (digest left right : List ℕ)
    → Stands h count top (record { level = suc level; place = place; leaves = leaves; digest = digest }) → h (node_message left right) ≡ digest
    → Stands h count top (record { level = level; place = 2 * place; leaves = 2 ^ level; digest = left })
left_stands h count top level place leaves digest left right s e =
    let over = stands_over h count top (record { level = suc level; place = place; leaves = leaves; digest = digest }) s in
    let two = more_below level leaves s.two in
    let lower = over_left count leaves level place two over in
    record {
      within = lower.within;
      leaves = lower.all;
      two = λ some. lower_power level some;
      under = left_under h count level place left right top (both_there count leaves level place two over) (subst (λ d. IsNodeUnder h count (suc level) place d top) (sym e) s.under);
    }

right_stands : (h : List ℕ → List ℕ) (count : ℕ) (top : List ℕ) (level place leaves : ℕ) (digest left right : List ℕ)
    → Stands h count top (record { level = suc level; place = place; leaves = leaves; digest = digest }) → h (node_message left right) ≡ digest
    → Stands h count top (lowered (leaves - 2 ^ level) level (2 * place + 1) right)
right_stands h count top level place leaves digest left right s e =
    let over = stands_over h count top (record { level = suc level; place = place; leaves = leaves; digest = digest }) s in
    let two = more_below level leaves s.two in
    stands_lowered h count top (leaves - 2 ^ level) level (2 * place + 1) right (over_right count leaves level place two over)
    (right_under h count level place left right top (both_there count leaves level place two over) (subst (λ d. IsNodeUnder h count (suc level) place d top) (sym e) s.under))

rest_follow : (first leaves p right : ℕ) → p < leaves → right ≡ leaves - p → first + leaves ≡ first + p + right
rest_follow first leaves p right two e = omega (arith, two, e)

children_follow : (h : List ℕ → List ℕ) (count : ℕ) (top : List ℕ) (first level place leaves : ℕ) (digest left right : List ℕ) (later : List Node)
    → 0 < level → h (node_message left right) ≡ digest
    → FollowFrom h count top first (record { level = level; place = place; leaves = leaves; digest = digest } ∷ later)
    → FollowFrom h count top first (entered_nodes (record { level = level; place = place; leaves = leaves; digest = digest } ∷ later) left right)
children_follow h count top first zero place leaves digest left right later some e f = absurd (omega (arith, some))
children_follow h count top first (suc level) place leaves digest left right later some e f =
    let two = more_below level leaves f.1.two in
    let right_first = lowered_first (leaves - 2 ^ level) level (2 * place + 1) right ∙ half_on level place ∙ ap (λ n. n + 2 ^ level) f.0 in
    let rest = rest_follow first leaves (2 ^ level) (lowered (leaves - 2 ^ level) level (2 * place + 1) right).leaves two (lowered_leaves (leaves - 2 ^ level) level (2 * place + 1) right) in
    let both : FollowFrom h count top first (record { level = level; place = 2 * place; leaves = 2 ^ level; digest = left } ∷ (lowered (leaves - 2 ^ level) level (2 * place + 1) right ∷ later)) = (
      same_first level place ∙ f.0,
      left_stands h count top level place leaves digest left right f.1 e,
      (right_first, right_stands h count top level place leaves digest left right f.1 e, subst (λ n. FollowFrom h count top n later) rest f.2),
    ) in
    subst (λ k. FollowFrom h count top first (record { level = k; place = 2 * place; leaves = 2 ^ k; digest = left } ∷ (lowered (leaves - 2 ^ k) k (2 * place + 1) right ∷ later)))
    (sym (one_less level)) both

nodes_entered : (h : List ℕ → List ℕ) (count : ℕ) (top : List ℕ) (nodes : List Node) (left right : List ℕ) → AreChildren h nodes left right
    → FollowFrom h count top (first_of count nodes) nodes
    → FollowFrom h count top (first_of count (entered_nodes nodes left right)) (entered_nodes nodes left right) × (first_of count (entered_nodes nodes left right) ≡ first_of count nodes)
nodes_entered h count top [] left right children f = absurd children
nodes_entered h count top (node ∷ later) left right children f =
    let both = children_follow h count top (first_below node) node.level node.place node.leaves node.digest left right later children.0 children.1 f in
    (subst (λ n. FollowFrom h count top n (entered_nodes (node ∷ later) left right)) (sym both.0) both, both.0)

few_entered : (h : List ℕ → List ℕ) (highest : ℕ) (nodes : List Node) (left right : List ℕ) → AreChildren h nodes left right → AreFew highest nodes
    → AreFew highest (entered_nodes nodes left right)
few_entered h highest [] left right children few = absurd children
few_entered h highest (node ∷ later) left right children few =
    let some = children.0 in
    let here = few.0 in
    let low = lowered_low (node.leaves - 2 ^ (node.level - 1)) (node.level - 1) (2 * node.place + 1) right in
    (omega (arith, some, here), (omega (arith, some, here, low), few.1))

few_passed : (highest : ℕ) (nodes : List Node) → AreFew highest nodes → AreFew highest (drop 1 nodes)
few_passed highest [] few = tt
few_passed highest (node ∷ later) few = few.1

pub way_entered : (h : List ℕ → List ℕ) (way : Way) (left right : List ℕ) → AreChildren h way.nodes left right → IsWay h way
    → IsWay h (entered way left right) × (first_leaf (entered way left right) ≡ first_leaf way)
way_entered h way left right children is =
    let both = nodes_entered h way.count way.top way.nodes left right children is.1 in
    ((is.0, both.0, few_entered h (height way.count) way.nodes left right children is.2), both.1)

nodes_passed : (h : List ℕ → List ℕ) (count : ℕ) (top : List ℕ) (nodes : List Node) → FollowFrom h count top (first_of count nodes) nodes
    → FollowFrom h count top (first_of count (drop 1 nodes)) (drop 1 nodes) × (first_of count (drop 1 nodes) ≡ first_of count nodes + first_leaves nodes)
nodes_passed h count top [] f = (refl, omega arith)
nodes_passed h count top (node ∷ []) f = (refl, sym f.2)
nodes_passed h count top (node ∷ (next ∷ later)) f = (subst (λ n. FollowFrom h count top n (next ∷ later)) (sym f.2.0) f.2, f.2.0)

pub way_passed : (h : List ℕ → List ℕ) (way : Way) → IsWay h way → IsWay h (passed way) × (first_leaf (passed way) ≡ first_leaf way + first_leaves way.nodes)
way_passed h way is =
    let both = nodes_passed h way.count way.top way.nodes is.1 in
    ((is.0, both.0, few_passed (height way.count) way.nodes is.2), both.1)

-- below a node there are leaves
pub some_leaves : (h : List ℕ → List ℕ) (count : ℕ) (top : List ℕ) (node : Node) → Stands h count top node → 1 ≤ node.leaves
some_leaves h count top node s = over_some count node.leaves node.level node.place (stands_over h count top node s)

one_fewer : (first leaves pairs nodes count : ℕ) → 1 ≤ leaves → first + leaves + (pairs + nodes) ≡ count → first + ((leaves - 1) + pairs + suc nodes) ≡ count
one_fewer first leaves pairs nodes count some e = omega (arith, some, e)

-- the leaves that are still to come are as many as the pairs and the nodes
pub all_follow : (h : List ℕ → List ℕ) (count : ℕ) (top : List ℕ) (first : ℕ) (nodes : List Node) → FollowFrom h count top first nodes → first + (pairs_below nodes + length nodes) ≡ count
all_follow h count top first [] f = omega (arith, f)
all_follow h count top first (node ∷ later) f =
    let fewer = one_fewer first node.leaves (pairs_below later) (length later) count (some_leaves h count top node f.1) (all_follow h count top (first + node.leaves) later f.2) in
    ap (λ n. first + (n + suc (length later))) (sum_by-cons (λ node. node.leaves - 1) node later) ∙ fewer

some_or_end : (count : ℕ) (nodes : List Node) → 1 ≤ count → 1 ≤ first_of count nodes + length nodes
some_or_end count [] some = omega (arith, some)
some_or_end count (node ∷ later) some = omega arith

-- so the pairs that come before a node are as many as the leaves before it and the nodes that wait behind it
pub pairs_before : (h : List ℕ → List ℕ) (way : Way) → IsWay h way → (first_leaf way + length way.nodes ≤ way.count) × (1 ≤ first_leaf way + length way.nodes) × (first_leaf way + length way.nodes - 1 ≡ pair_place way)
pairs_before h way is =
    let all = all_follow h way.count way.top (first_leaf way) way.nodes is.1 in
    let some = some_or_end way.count way.nodes is.0 in
    (omega (arith, all), some, omega (arith, all, some))

-- a node of a tree whose leaves are counted in a word is at a level of at most 64
pub low_level : (h : List ℕ → List ℕ) (count : ℕ) (top : List ℕ) (node : Node) (bound : ℕ) → Stands h count top node → 0 < node.level → count < 2 ^ bound → node.level ≤ bound
low_level h count top node bound s some few = elim (less_or_not bound node.level) [
  | inr low ↦ low
  | inl high ↦
      let power : 2 ^ bound ≤ 2 ^ (node.level - 1) = pow_mono (omega (arith, high)) in
      let two = s.two some in
      let all = s.leaves in
      absurd (omega (arith, power, two, all, few))
]

at_least : (n q : ℕ) → 1 ≤ q → n ≤ n * q
at_least n q some = grind (arith, some)

right_place : (h : List ℕ → List ℕ) (count : ℕ) (top : List ℕ) (level place leaves : ℕ) (digest : List ℕ)
    → Stands h count top (record { level = level; place = place; leaves = leaves; digest = digest }) → 0 < level → (2 * place + 1) * 2 ^ (level - 1) < count
right_place h count top zero place leaves digest s some = absurd (omega (arith, some))
right_place h count top (suc level) place leaves digest s some =
    let over = stands_over h count top (record { level = suc level; place = place; leaves = leaves; digest = digest }) s in
    rw (one_less level) (over_right count leaves level place (more_below level leaves s.two) over).within

-- the places of the children of a node are below the number of leaves
pub child_places : (h : List ℕ → List ℕ) (count : ℕ) (top : List ℕ) (node : Node) → Stands h count top node → 0 < node.level
    → ((2 * node.place + 1) * 2 ^ (node.level - 1) < count) × (2 * node.place < count)
child_places h count top node s some =
    let right = right_place h count top node.level node.place node.leaves node.digest s some in
    let least = at_least (2 * node.place + 1) (2 ^ (node.level - 1)) (one_le_power (node.level - 1)) in
    (right, omega (arith, right, least))

-- the last node of a list is the first of those from right to left
pub last_first : (xs : List Node) (x : Node) → slice_get xs (length xs - 1) ≡ Some x → (init : List Node) × (xs ≡ init ++ x ∷ [])
last_first [] x e = cc
last_first (y ∷ []) x e = let same : y ≡ x = cc in ([], rw same refl)
last_first (y ∷ (z ∷ zs)) x e =
    let here : suc (suc (length zs)) - 1 ≡ suc (length zs) = omega arith in
    let there : suc (length zs) - 1 ≡ length zs = omega arith in
    let behind : slice_get (y ∷ (z ∷ zs)) (suc (length zs)) ≡ Some x = subst (λ k. slice_get (y ∷ (z ∷ zs)) k ≡ Some x) here e in
    let before = last_first (z ∷ zs) x (subst (λ k. slice_get (z ∷ zs) k ≡ Some x) (sym there) behind) in
    (y ∷ before.0, ap (λ l. y ∷ l) before.1)

pub reverse_entered : (xs : List Node) (x left right : Node) → slice_get xs (length xs - 1) ≡ Some x
    → (later : List Node) × (reverse xs ≡ x ∷ later) × (reverse (slice_set (xs ++ left ∷ []) (length xs - 1) right) ≡ left ∷ (right ∷ later))
reverse_entered xs x left right e =
    let parts = last_first xs x e in
    let init = parts.0 in
    let size : length xs - 1 ≡ length init = let all = ap length parts.1 ∙ length-append init (x ∷ []) in omega (arith, all) in
    let joined : xs ++ left ∷ [] ≡ init ++ (x ∷ (left ∷ [])) = ap (λ l. l ++ left ∷ []) parts.1 ∙ append_assoc init (x ∷ []) (left ∷ []) in
    let written : slice_set (xs ++ left ∷ []) (length xs - 1) right ≡ init ++ (right ∷ (left ∷ [])) =
    ap (λ l. slice_set l (length xs - 1) right) joined ∙ ap (λ k. slice_set (init ++ (x ∷ (left ∷ []))) k right) size ∙ set-append_seam init x (left ∷ []) right in
    (reverse init, ap reverse parts.1 ∙ reverse-append init (x ∷ []), ap reverse written ∙ reverse-append init (right ∷ (left ∷ [])))

first_follows : (h : List ℕ → List ℕ) (count : ℕ) (top : List ℕ) (nodes : List Node) (node : Node) (later : List Node) → nodes ≡ node ∷ later
    → FollowFrom h count top (first_of count nodes) nodes → Stands h count top node
first_follows h count top nodes node later e f = (subst (λ l. FollowFrom h count top (first_of count l) l) e f).1

some_none : (x : Node) → Some x ≡ None → ⊥
some_none x e = cc

slice_get_none : (xs : List Node) (i : ℕ) → slice_get xs i ≡ None → length xs ≤ i
slice_get_none [] i e = omega arith
slice_get_none (x ∷ xs) zero e = absurd (some_none x e)
slice_get_none (x ∷ xs) (suc i) e = let before = slice_get_none xs i e in omega (arith, before)

-- so the last of the nodes that wait is one that the way comes to
pub last_stands : (h : List ℕ → List ℕ) (count : ℕ) (top : List ℕ) (waiting : List Node) (node : Node) → slice_get waiting (length waiting - 1) ≡ Some node
    → IsWay h (record { count = count; top = top; nodes = reverse waiting }) → Stands h count top node
last_stands h count top waiting node e is =
    let parts = reverse_entered waiting node node node e in
    first_follows h count top (reverse waiting) node parts.0 parts.1 is.1

-- these are the digests of its children where they are those of the first node
pub first_children : (h : List ℕ → List ℕ) (way : Way) (count : ℕ) (top : List ℕ) (waiting : List Node) (node : Node) (left right : List ℕ)
    → slice_get waiting (length waiting - 1) ≡ Some node → record { count = count; top = top; nodes = reverse waiting } ≡ way
    → AreChildren h way.nodes left right ↔ ((0 < node.level) × (h (node_message left right) ≡ node.digest))
first_children h way count top waiting node left right e is =
    let parts = reverse_entered waiting node node node e in
    let nodes : way.nodes ≡ node ∷ parts.0 = ap (λ w. w.nodes) (sym is) ∙ parts.1 in
    (λ c. subst (λ l. AreChildren h l left right) nodes c, λ c. subst (λ l. AreChildren h l left right) (sym nodes) c)

-- the children in the place of the node that waits last are the way further down
pub entered_way : (h : List ℕ → List ℕ) (way : Way) (count : ℕ) (top : List ℕ) (waiting : List Node) (node a b : Node) (left right : List ℕ)
    → slice_get waiting (length waiting - 1) ≡ Some node → record { count = count; top = top; nodes = reverse waiting } ≡ way
    → a ≡ left_child node left → b ≡ right_child node right
    → record { count = count; top = top; nodes = reverse (slice_set (waiting ++ a ∷ []) (length waiting - 1) b) } ≡ entered way left right
entered_way h way count top waiting node a b left right e is p q =
    let parts = reverse_entered waiting node a b e in
    let old : entered_nodes (reverse waiting) left right ≡ left_child node left ∷ (right_child node right ∷ parts.0) = ap (λ l. entered_nodes l left right) parts.1 in
    let new : reverse (slice_set (waiting ++ a ∷ []) (length waiting - 1) b) ≡ left_child node left ∷ (right_child node right ∷ parts.0) =
    parts.2 ∙ ap (λ n. n ∷ (b ∷ parts.0)) p ∙ ap (λ n. left_child node left ∷ (n ∷ parts.0)) q in
    ap (λ l. record { count = count; top = top; nodes = l }) (new ∙ sym old) ∙ ap (λ w. entered w left right) is

-- the children in the place of the node that waits last are the way further down, from the same leaf on
pub entered_keeps : (h : List ℕ → List ℕ) (way : Way) (count : ℕ) (top : List ℕ) (waiting pushed : List Node) (n : ℕ) (node a b : Node) (left right : List ℕ)
    → slice_get waiting (length waiting - 1) ≡ Some node → record { count = count; top = top; nodes = reverse waiting } ≡ way → n ≡ length waiting
    → pushed ≡ waiting ++ a ∷ [] → a ≡ left_child node left → b ≡ right_child node right → (0 < node.level) × (h (node_message left right) ≡ node.digest)
    → IsWay h (record { count = count; top = top; nodes = reverse waiting })
    → (record { count = count; top = top; nodes = reverse (slice_set pushed (n - 1) b) } ≡ entered way left right)
    × IsWay h (record { count = count; top = top; nodes = reverse (slice_set pushed (n - 1) b) })
    × (first_of count (reverse waiting) ≡ first_of count (reverse (slice_set pushed (n - 1) b)))
entered_keeps h way count top waiting pushed n node a b left right e is size push p q children old =
    let first = (first_children h way count top waiting node left right e is).1 children in
    let kept = way_entered h way left right first (subst (λ w. IsWay h w) is old) in
    let new : record { count = count; top = top; nodes = reverse (slice_set pushed (n - 1) b) } ≡ entered way left right =
    ap (λ l. record { count = count; top = top; nodes = reverse (slice_set l (n - 1) b) }) push
    ∙ ap (λ k. record { count = count; top = top; nodes = reverse (slice_set (waiting ++ a ∷ []) (k - 1) b) }) size
    ∙ entered_way h way count top waiting node a b left right e is p q in
    (new, subst (λ w. IsWay h w) (sym new) kept.0, ap first_leaf is ∙ sym kept.1 ∙ ap first_leaf (sym new))

children_wait : (h : List ℕ → List ℕ) (nodes : List Node) (left right : List ℕ) → AreChildren h nodes left right → length (entered_nodes nodes left right) ≡ length nodes + 1
children_wait h [] left right children = absurd children
children_wait h (node ∷ later) left right children = omega arith

-- on the way further down there is one more pair behind
pub pair_entered : (h : List ℕ → List ℕ) (way : Way) (left right : List ℕ) → AreChildren h way.nodes left right → IsWay h way
    → pair_place (entered way left right) ≡ pair_place way + 1
pair_entered h way left right children is =
    let kept = way_entered h way left right children is in
    let before = pairs_before h way is in
    let after = pairs_before h (entered way left right) kept.0 in
    let size = children_wait h way.nodes left right children in
    omega (arith, kept.1, before.1, before.2, after.1, after.2, size)

fewer_wait : (h : List ℕ → List ℕ) (count : ℕ) (top : List ℕ) (first : ℕ) (nodes : List Node) → FollowFrom h count top first nodes
    → (length nodes ≡ 0) × (length (drop 1 nodes) ≡ 0) × (first_leaves nodes ≡ 0) ⊎ (length (drop 1 nodes) + 1 ≡ length nodes) × (1 ≤ first_leaves nodes)
fewer_wait h count top first [] f = inl (refl, refl, refl)
fewer_wait h count top first (node ∷ later) f = inr (omega arith, some_leaves h count top node f.1)

-- behind a node all pairs below it are behind
pub pair_passed : (h : List ℕ → List ℕ) (way : Way) → IsWay h way → pair_place (passed way) ≡ pair_place way + (first_leaves way.nodes - 1)
pair_passed h way is =
    let kept = way_passed h way is in
    let before = pairs_before h way is in
    let after = pairs_before h (passed way) kept.0 in
    elim (fewer_wait h way.count way.top (first_leaf way) way.nodes is.1) [
      | inl none ↦ omega (arith, kept.1, before.1, before.2, after.1, after.2, none.0, none.1, none.2)
      | inr some ↦ omega (arith, kept.1, before.1, before.2, after.1, after.2, some.0, some.1)
    ]

-- without the node that waits last it is the way behind that
pub passed_way : (way : Way) (count : ℕ) (top : List ℕ) (waiting rest : List Node) (node : Node) → waiting ≡ rest ++ node ∷ []
    → record { count = count; top = top; nodes = reverse waiting } ≡ way → record { count = count; top = top; nodes = reverse rest } ≡ passed way
passed_way way count top waiting rest node e is =
    let nodes : reverse waiting ≡ node ∷ reverse rest = ap reverse e ∙ reverse-append rest (node ∷ []) in
    ap (λ l. record { count = count; top = top; nodes = drop 1 l }) (sym nodes) ∙ ap passed is

last_or_none : (xs : List Node) (o : Option Node) → slice_get xs (length xs - 1) ≡ o → slice_get (reverse xs) 0 ≡ o
last_or_none [] None e = refl
last_or_none (x ∷ xs) None e = let past = slice_get_none (x ∷ xs) (length (x ∷ xs) - 1) e in absurd (omega (arith, past))
last_or_none xs (Some x) e = ap (λ l. slice_get l 0) (reverse_entered xs x x x e).1

-- the first node of a way is the one that waits last
pub last_is_first : (xs : List Node) → slice_get (reverse xs) 0 ≡ slice_get xs (length xs - 1)
last_is_first xs = last_or_none xs (slice_get xs (length xs - 1)) refl

-- what holds of the first node, if there is one
pub of_first : (P : Node → Type 0) (nodes : List Node) (o : Option Node) → o ≡ slice_get nodes 0 → ((node : Node) (later : List Node) → nodes ≡ node ∷ later → P node) → IfSome o P
of_first P [] o e f = subst (λ o. IfSome o P) (sym e) tt
of_first P (node ∷ later) o e f = subst (λ o. IfSome o P) (sym e) (f node later refl)

with_nodes : (way : Way) (node : Node) (later : List Node) → way.nodes ≡ node ∷ later → way ≡ record { count = way.count; top = way.top; nodes = node ∷ later }
with_nodes way node later e = ap (λ l. record { count = way.count; top = way.top; nodes = l }) e

pub first_stands : (h : List ℕ → List ℕ) (way : Way) (node : Node) (later : List Node) → IsWay h way → way.nodes ≡ node ∷ later → Stands h way.count way.top node
first_stands h way node later is e = (subst (λ w. IsWay h w) (with_nodes way node later e) is).1.1

-- a leaf that a way comes to is under its top
pub leaf_under : (h : List ℕ → List ℕ) (way : Way) (node : Node) (later : List Node) → IsWay h way → way.nodes ≡ node ∷ later
    → node.level ≡ 0 → (others : List (List ℕ)) × IsLeafUnder h way.count node.place node.digest others way.top
leaf_under h way node later is e leaf = subst (λ l. IsNodeUnder h way.count l node.place node.digest way.top) leaf (first_stands h way node later is e).under

-- what is below the first node ends within the tree
pub first_ends : (h : List ℕ → List ℕ) (way : Way) (node : Node) (later : List Node) → IsWay h way → way.nodes ≡ node ∷ later
    → (1 ≤ node.leaves) × (first_leaf way + node.leaves ≤ way.count) × (pair_place way + node.leaves ≤ way.count)
first_ends h way node later is e =
    let some = some_leaves h way.count way.top node (first_stands h way node later is e) in
    let same = with_nodes way node later e in
    let here = subst (λ w. IsWay h w) same is in
    let after = all_follow h way.count way.top (first_below node + node.leaves) later here.1.2 in
    let pairs = pairs_before h way is in
    let place = pairs.2 in
    let first : first_leaf way ≡ first_below node = ap first_leaf same in
    let size : length way.nodes ≡ suc (length later) = ap length e in
    (some, omega (arith, first, after), omega (arith, first, after, place, size))

pub first_index : (h : List ℕ → List ℕ) (way : Way) (node : Node) (later : List Node) → IsWay h way → way.nodes ≡ node ∷ later → node.place * 2 ^ node.level ≡ first_leaf way
first_index h way node later is e = sym (ap first_leaf (with_nodes way node later e))

pub one_leaf : (count place leaves : ℕ) → place * 1 < count → leaves ≡ min count ((place + 1) * 1) - place * 1 → leaves ≡ 1
one_leaf count place leaves within all = omega (arith, within, all)

-- the place of a leaf is its index
pub leaf_index : (h : List ℕ → List ℕ) (way : Way) (node : Node) (later : List Node) → IsWay h way → way.nodes ≡ node ∷ later → node.level ≡ 0
    → (node.place ≡ first_leaf way) × (node.leaves ≡ 1)
leaf_index h way node later is e leaf =
    let stands = first_stands h way node later is e in
    let first : node.place * 1 ≡ first_leaf way = ap (λ k. node.place * 2 ^ k) (sym leaf) ∙ first_index h way node later is e in
    let within : node.place * 1 < way.count = subst (λ k. node.place * 2 ^ k < way.count) leaf stands.within in
    let all : node.leaves ≡ min way.count ((node.place + 1) * 1) - node.place * 1 = subst (λ k. node.leaves ≡ leaves_below way.count k node.place) leaf stands.leaves in
    (omega (arith, first), one_leaf way.count node.place node.leaves within all)

-- at the top no pair is behind
pub none_behind : (h : List ℕ → List ℕ) (count : ℕ) (top : List ℕ) → 1 ≤ count → pair_place (from_top top count) ≡ 0
none_behind h count top some =
    let way = way_from_top h count top some in
    let pairs = pairs_before h (from_top top count) way.0 in
    let here = pairs.2 in
    let first = way.1 in
    omega (arith, here, first)
