-- Nodes at the level where they have two children, and what is below them.
use Rattle.std.proofs.Common.{◌≡◌, ◌≢◌, ℕ, zero, suc, ◌+◌, ◌-◌, ◌*◌, ◌/◌, ◌%◌, ◌^◌, ◌<◌, ◌≤◌, ◌⊎◌, inl, inr, min, List, refl, sym, ap, ◌∙◌, subst, arith, true, false}
use Rattle.std.specs.Prelude.{nat_lt, ◌==◌}
use Rattle.std.proofs.Common.{◌∷◌, eq-eqb}
use Rattle.std.proofs.lemmas.Bool.{cases_Bool, and_cases, and_parts, eqb-false, eqb-true}
use Rattle.std.proofs.Math.Pow.{pow_mono}
use Rattle.std.proofs.lemmas.Grind.{common_steps}
use Rattle.hash_trees.specs.Trees.{LeadsTo, half, is_alone, node_message, step_message}
use Rattle.hash_trees.specs.Descents.{IsNodeUnder, Stands, first_below, leaves_below, lowered, nodes_at}
use Rattle.hash_trees.proofs.Enough.{one_le_power}
use Rattle.hash_trees.proofs.Steps.{leads_alone, leads_step}

pub below_true : (a b : ℕ) → a < b → nat_lt a b ≡ true
below_true a b l = grind (arith, common_steps)

pub below_false : (a b : ℕ) → b ≤ a → nat_lt a b ≡ false
below_false a b l = grind (arith, common_steps)

pub one_less : (k : ℕ) → suc k - 1 ≡ k
one_less k = omega arith

-- where more leaves are below it than below a left child, a node has two children
pub lowered_here : (leaves level place : ℕ) (d : List ℕ) → (0 < level → 2 ^ (level - 1) < leaves)
    → lowered leaves level place d ≡ record { level = level; place = place; leaves = leaves; digest = d }
unfolding lowered
lowered_here leaves zero place d two = refl
lowered_here leaves (suc level) place d two =
    let more : 2 ^ level < leaves = subst (λ k. 2 ^ k < leaves) (one_less level) (two (omega arith)) in
    let below : nat_lt (2 ^ level) leaves ≡ true = below_true (2 ^ level) leaves more in
    rw below refl

-- and else it is that of the level below
pub lowered_down : (leaves level place : ℕ) (d : List ℕ) → leaves ≤ 2 ^ level
    → lowered leaves (suc level) place d ≡ lowered leaves level (2 * place) d
unfolding lowered
lowered_down leaves level place d few =
    let below : nat_lt (2 ^ level) leaves ≡ false = below_false (2 ^ level) leaves few in
    rw below refl

-- the same, as the code goes down
pub lowered_step : (leaves level place : ℕ) (d : List ℕ) → 0 < level → leaves ≤ 2 ^ (level - 1)
    → lowered leaves (level - 1) (place * 2) d ≡ lowered leaves level place d
lowered_step leaves zero place d some few = absurd (omega (arith, some))
lowered_step leaves (suc level) place d some few =
    let fewer : leaves ≤ 2 ^ level = subst (λ k. leaves ≤ 2 ^ k) (one_less level) few in
    let twice : place * 2 ≡ 2 * place = omega arith in
    rw (one_less level, twice) (sym (lowered_down leaves level place d fewer))

pub twice_power : (k : ℕ) → 2 ^ suc k ≡ 2 * 2 ^ k
twice_power k = grind arith

pub double : (place p : ℕ) → 2 * place * p ≡ place * (2 * p)
double place p = grind arith

pub one_more : (place p : ℕ) → (2 * place + 1) * p ≡ place * (2 * p) + p
one_more place p = grind arith

pub next_one : (place p : ℕ) → (place + 1) * p ≡ place * p + p
next_one place p = grind arith

pub same_first : (level place : ℕ) → 2 * place * 2 ^ level ≡ place * 2 ^ suc level
same_first level place = rw (twice_power level) (double place (2 ^ level))

pub half_on : (level place : ℕ) → (2 * place + 1) * 2 ^ level ≡ place * 2 ^ suc level + 2 ^ level
half_on level place = rw (twice_power level) (one_more place (2 ^ level))

pub less_or_not : (a b : ℕ) → (a < b) ⊎ (b ≤ a)
less_or_not a b = grind arith

-- the first node of a level above the top is the top
lowered_above : (leaves j k : ℕ) (d : List ℕ) → leaves ≤ 2 ^ k → lowered leaves (k + j) 0 d ≡ lowered leaves k 0 d
lowered_above leaves zero k d few = let same : k + 0 ≡ k = omega arith in rw same refl
lowered_above leaves (suc j) k d few =
    let up : k + suc j ≡ suc (k + j) = omega arith in
    let more : 2 ^ k ≤ 2 ^ (k + j) = pow_mono (omega arith) in
    rw up (lowered_down leaves (k + j) 0 d (omega (arith, few, more)) ∙ lowered_above leaves j k d few)

pub lowered_top : (leaves j k : ℕ) (d : List ℕ) → leaves ≤ 2 ^ j → leaves ≤ 2 ^ k → lowered leaves j 0 d ≡ lowered leaves k 0 d
lowered_top leaves j k d few fewer = elim (less_or_not j k) [
  | inl below ↦ let e : j + (k - j) ≡ k = omega (arith, below) in sym (ap (λ n. lowered leaves n 0 d) (sym e) ∙ lowered_above leaves (k - j) j d few)
  | inr above ↦ let e : k + (j - k) ≡ j = omega (arith, above) in ap (λ n. lowered leaves n 0 d) (sym e) ∙ lowered_above leaves (j - k) k d fewer
]

-- as it is lowered a node keeps its leaves
pub lowered_leaves : (leaves level place : ℕ) (d : List ℕ) → (lowered leaves level place d).leaves ≡ leaves
unfolding lowered
lowered_leaves leaves zero place d = refl
lowered_leaves leaves (suc level) place d = elim (cases_Bool (nat_lt (2 ^ level) leaves)) [
  | inl t ↦ rw t refl
  | inr f ↦ rw f (lowered_leaves leaves level (2 * place) d)
]

pub lowered_first : (leaves level place : ℕ) (d : List ℕ) → first_below (lowered leaves level place d) ≡ place * 2 ^ level
unfolding lowered
lowered_first leaves zero place d = refl
lowered_first leaves (suc level) place d = elim (cases_Bool (nat_lt (2 ^ level) leaves)) [
  | inl t ↦ rw t refl
  | inr f ↦ rw f (lowered_first leaves level (2 * place) d ∙ same_first level place)
]

pub lowered_digest : (leaves level place : ℕ) (d : List ℕ) → (lowered leaves level place d).digest ≡ d
unfolding lowered
lowered_digest leaves zero place d = refl
lowered_digest leaves (suc level) place d = elim (cases_Bool (nat_lt (2 ^ level) leaves)) [
  | inl t ↦ rw t refl
  | inr f ↦ rw f (lowered_digest leaves level (2 * place) d)
]

pub lowered_level : (leaves level place other : ℕ) (d e : List ℕ) → (lowered leaves level place d).level ≡ (lowered leaves level other e).level
unfolding lowered
lowered_level leaves zero place other d e = refl
lowered_level leaves (suc level) place other d e = elim (cases_Bool (nat_lt (2 ^ level) leaves)) [
  | inl t ↦ rw t refl
  | inr f ↦ rw f (lowered_level leaves level (2 * place) (2 * other) d e)
]

pub lowered_low : (leaves level place : ℕ) (d : List ℕ) → (lowered leaves level place d).level ≤ level
unfolding lowered
lowered_low leaves zero place d = omega arith
lowered_low leaves (suc level) place d = elim (cases_Bool (nat_lt (2 ^ level) leaves)) [
  | inl t ↦ rw t (omega arith)
  | inr f ↦ rw f (let lower = lowered_low leaves level (2 * place) d in omega (arith, lower))
]

-- a level has the nodes over the leaves
pub has_node : (count level k : ℕ) → k * 2 ^ level < count → k < nodes_at count level
has_node count zero k l = omega (arith, l)
has_node count (suc level) k l =
    let lower = has_node count level (2 * k) (subst (λ n. n < count) (sym (same_first level k)) l) in
    omega (arith, lower)

pub node_has : (count level k : ℕ) → k < nodes_at count level → k * 2 ^ level < count
node_has count zero k l = omega (arith, l)
node_has count (suc level) k l =
    subst (λ n. n < count) (same_first level k) (node_has count level (2 * k) (omega (arith, l)))

even_not_alone : (n k : ℕ) → 2 * k + 1 < n → is_alone n (2 * k) ≡ false
unfolding is_alone
even_not_alone n k l = elim (cases_Bool (is_alone n (2 * k))) [
  | inl t ↦
      let parts = and_parts (2 * k % 2 == 0) (2 * k + 1 == n) t in
      let last : 2 * k + 1 ≡ n = eqb-true (2 * k + 1) n parts.1 in
      absurd (omega (arith, last, l))
  | inr f ↦ f
]

odd_not_alone : (n k : ℕ) → is_alone n (2 * k + 1) ≡ false
unfolding is_alone
odd_not_alone n k = elim (cases_Bool (is_alone n (2 * k + 1))) [
  | inl t ↦
      let parts = and_parts ((2 * k + 1) % 2 == 0) (2 * k + 1 + 1 == n) t in
      let even : (2 * k + 1) % 2 ≡ 0 = eqb-true ((2 * k + 1) % 2) 0 parts.0 in
      absurd (omega (arith, even))
  | inr f ↦ f
]

last_alone : (n k : ℕ) → 2 * k + 1 ≡ n → is_alone n (2 * k) ≡ true
unfolding is_alone
last_alone n k e = elim (cases_Bool (is_alone n (2 * k))) [
  | inl t ↦ t
  | inr f ↦ elim (and_cases (2 * k % 2 == 0) (2 * k + 1 == n) f) [
    | inl g ↦ let odd : 2 * k % 2 ≢ 0 = eqb-false (2 * k % 2) 0 g in absurd (omega (arith, odd))
    | inr g ↦ absurd (eqb-false (2 * k + 1) n g e)
  ]
]

step_even : (k : ℕ) (left right : List ℕ) → step_message (2 * k) left right ≡ node_message left right
step_even k left right =
    let even : 2 * k % 2 ≡ 0 = omega arith in
    let t : (2 * k % 2 == 0) ≡ true = eq-eqb (2 * k % 2) 0 even in
    rw t refl

step_odd : (k : ℕ) (left right : List ℕ) → step_message (2 * k + 1) right left ≡ node_message left right
step_odd k left right = elim (cases_Bool ((2 * k + 1) % 2 == 0)) [
  | inl t ↦ let even : (2 * k + 1) % 2 ≡ 0 = eqb-true ((2 * k + 1) % 2) 0 t in absurd (omega (arith, even))
  | inr f ↦ rw f refl
]

-- where a node is under the top and has two children, both are
pub left_under : (h : List ℕ → List ℕ) (count level place : ℕ) (left right top : List ℕ) → 2 * place + 1 < nodes_at count level
    → IsNodeUnder h count (suc level) place (h (node_message left right)) top → IsNodeUnder h count level (2 * place) left top
left_under h count level place left right top two up =
    let n = nodes_at count level in
    let step = leads_step h n (2 * place) left (right ∷ up.0) top (omega (arith, two)) (omega (arith, two)) (even_not_alone n place two) (omega arith) in
    let here : place ≡ 2 * place / 2 = omega arith in
    let placed = subst (λ k. LeadsTo h (half n) k (h (node_message left right)) up.0 top) here up.1.1 in
    let message = subst (λ m. LeadsTo h (half n) (2 * place / 2) (h m) up.0 top) (sym (step_even place left right)) placed in
    (right ∷ up.0, (omega (arith, two), step.1 message))

pub right_under : (h : List ℕ → List ℕ) (count level place : ℕ) (left right top : List ℕ) → 2 * place + 1 < nodes_at count level
    → IsNodeUnder h count (suc level) place (h (node_message left right)) top → IsNodeUnder h count level (2 * place + 1) right top
right_under h count level place left right top two up =
    let n = nodes_at count level in
    let step = leads_step h n (2 * place + 1) right (left ∷ up.0) top (omega (arith, two)) two (odd_not_alone n place) (omega arith) in
    let here : place ≡ (2 * place + 1) / 2 = omega arith in
    let placed = subst (λ k. LeadsTo h (half n) k (h (node_message left right)) up.0 top) here up.1.1 in
    let message = subst (λ m. LeadsTo h (half n) ((2 * place + 1) / 2) (h m) up.0 top) (sym (step_odd place left right)) placed in
    (left ∷ up.0, (two, step.1 message))

one_or_two : (n k : ℕ) → 2 * k + 1 ≡ n → ((n ≡ 1) × (k ≡ 0)) ⊎ (2 ≤ n)
one_or_two n k e = grind (arith, e)

-- and where it has one child alone, that is under the top
pub only_under : (h : List ℕ → List ℕ) (count level place : ℕ) (d top : List ℕ) → 2 * place + 1 ≡ nodes_at count level
    → IsNodeUnder h count (suc level) place d top → IsNodeUnder h count level (2 * place) d top
only_under h count level place d top one up = elim (one_or_two (nodes_at count level) place one) [
  | inl few ↦
      let same : half (nodes_at count level) ≡ nodes_at count level = omega (arith, few.0) in
      let counted = subst (λ n. LeadsTo h n place d up.0 top) same up.1.1 in
      let here : place ≡ 2 * place = omega (arith, few.1) in
      (up.0, (omega (arith, one), subst (λ k. LeadsTo h (nodes_at count level) k d up.0 top) here counted))
  | inr more ↦
      let n = nodes_at count level in
      let step = leads_alone h n (2 * place) d up.0 top more (omega (arith, one)) (last_alone n place one) in
      let here : place ≡ 2 * place / 2 = omega arith in
      (up.0, (omega (arith, one), step.1 (subst (λ k. LeadsTo h (half n) k d up.0 top) here up.1.1)))
]

-- a node with at most as many leaves as a left child has no right one
few_leaves : (count first p leaves : ℕ) → first < count → 0 < p → leaves ≡ min count (first + 2 * p) - first → leaves ≤ p → count ≤ first + p
few_leaves count first p leaves within some all few = omega (arith, within, some, all, few)

left_leaves : (count first p leaves : ℕ) → first < count → leaves ≡ min count (first + 2 * p) - first → count ≤ first + p → leaves ≡ min count (first + p) - first
left_leaves count first p leaves within all few = omega (arith, within, all, few)

only_one : (k n : ℕ) → k < n → (k + 1 < n → ⊥) → k + 1 ≡ n
only_one k n l none = elim (less_or_not (k + 1) n) [ inl more ↦ absurd (none more) | inr last ↦ omega (arith, l, last) ]

-- the node at this place of this level is over so many of the leaves, and at least one
pub record IsOver (count leaves level place : ℕ) : Type 0 where
  pub within : place * 2 ^ level < count
  pub all : leaves ≡ leaves_below count level place

ends : (count leaves level place : ℕ) → leaves ≡ leaves_below count (suc level) place
    → leaves ≡ min count (place * 2 ^ suc level + 2 * 2 ^ level) - place * 2 ^ suc level
ends count leaves level place all =
    all ∙ ap (λ n. min count n - place * 2 ^ suc level) (next_one place (2 ^ suc level) ∙ ap (λ n. place * 2 ^ suc level + n) (twice_power level))

-- with at most as many leaves as a left child it goes up as it is
pub over_down : (count leaves level place : ℕ) → leaves ≤ 2 ^ level → IsOver count leaves (suc level) place
    → IsOver count leaves level (2 * place) × (2 * place + 1 ≡ nodes_at count level)
over_down count leaves level place few over =
    let some = one_le_power level in
    let first = place * 2 ^ suc level in
    let ended = ends count leaves level place over.all in
    let last = few_leaves count first (2 ^ level) leaves over.within some ended few in
    let same = same_first level place in
    let half = half_on level place in
    let inside : 2 * place * 2 ^ level < count = subst (λ n. n < count) (sym same) over.within in
    let there = has_node count level (2 * place) inside in
    let past : 2 * place + 1 < nodes_at count level → (2 * place + 1) * 2 ^ level < count = node_has count level (2 * place + 1) in
    let lower : leaves ≡ leaves_below count level (2 * place) =
    left_leaves count first (2 ^ level) leaves over.within ended last ∙ ap (λ n. min count n - first) (sym half) ∙ ap (λ n. min count ((2 * place + 1) * 2 ^ level) - n) (sym same) in
    (record { within = inside; all = lower }, only_one (2 * place) (nodes_at count level) there (λ two. let p = past two in omega (arith, p, half, last)))

right_leaves : (count first p leaves : ℕ) → leaves ≡ min count (first + 2 * p) - first → p < leaves → leaves - p ≡ min count (first + p + p) - (first + p)
right_leaves count first p leaves all two = omega (arith, all, two)

right_within : (count first p leaves : ℕ) → leaves ≡ min count (first + 2 * p) - first → p < leaves → first + p < count
right_within count first p leaves all two = omega (arith, all, two)

left_all : (count first p leaves : ℕ) → leaves ≡ min count (first + 2 * p) - first → p < leaves → p ≡ min count (first + p) - first
left_all count first p leaves all two = omega (arith, all, two)

-- with more it has two children: the left one over as many as there is room for, and the right one over the others
pub over_left : (count leaves level place : ℕ) → 2 ^ level < leaves → IsOver count leaves (suc level) place → IsOver count (2 ^ level) level (2 * place)
over_left count leaves level place two over =
    let first = place * 2 ^ suc level in
    let same = same_first level place in
    let half = half_on level place in
    let left = left_all count first (2 ^ level) leaves (ends count leaves level place over.all) two in
    record {
      within = subst (λ n. n < count) (sym same) over.within;
      all = left ∙ ap (λ n. min count n - first) (sym half) ∙ ap (λ n. min count ((2 * place + 1) * 2 ^ level) - n) (sym same);
    }

pub over_right : (count leaves level place : ℕ) → 2 ^ level < leaves → IsOver count leaves (suc level) place → IsOver count (leaves - 2 ^ level) level (2 * place + 1)
over_right count leaves level place two over =
    let first = place * 2 ^ suc level in
    let half = half_on level place in
    let ended = ends count leaves level place over.all in
    let end : (2 * place + 1 + 1) * 2 ^ level ≡ first + 2 ^ level + 2 ^ level = next_one (2 * place + 1) (2 ^ level) ∙ ap (λ n. n + 2 ^ level) half in
    let right = right_leaves count first (2 ^ level) leaves ended two in
    record {
      within = subst (λ n. n < count) (sym half) (right_within count first (2 ^ level) leaves ended two);
      all = right ∙ ap (λ n. min count n - (first + 2 ^ level)) (sym end) ∙ ap (λ n. min count ((2 * place + 1 + 1) * 2 ^ level) - n) (sym half);
    }

-- so the level has both
pub both_there : (count leaves level place : ℕ) → 2 ^ level < leaves → IsOver count leaves (suc level) place → 2 * place + 1 < nodes_at count level
both_there count leaves level place two over = has_node count level (2 * place + 1) (over_right count leaves level place two over).within

some_between : (count first p leaves : ℕ) → first < count → 1 ≤ p → leaves ≡ min count (first + p) - first → 1 ≤ leaves
some_between count first p leaves within some all = omega (arith, within, some, all)

pub over_some : (count leaves level place : ℕ) → IsOver count leaves level place → 1 ≤ leaves
over_some count leaves level place over =
    some_between count (place * 2 ^ level) (2 ^ level) leaves over.within (one_le_power level)
    (over.all ∙ ap (λ n. min count n - place * 2 ^ level) (next_one place (2 ^ level)))

-- as it is lowered a node stays under the top
pub stands_lowered : (h : List ℕ → List ℕ) (count : ℕ) (top : List ℕ) (leaves level place : ℕ) (d : List ℕ)
    → IsOver count leaves level place → IsNodeUnder h count level place d top → Stands h count top (lowered leaves level place d)
unfolding lowered
stands_lowered h count top leaves zero place d over under =
    record { within = over.within; leaves = over.all; two = λ some. absurd (omega (arith, some)); under = under }
stands_lowered h count top leaves (suc level) place d over under = elim (less_or_not (2 ^ level) leaves) [
  | inl more ↦
      let two : 0 < suc level → 2 ^ (suc level - 1) < leaves = λ some. rw (one_less level) more in
      rw (below_true (2 ^ level) leaves more) (record { within = over.within; leaves = over.all; two = two; under = under })
  | inr few ↦
      let lower = over_down count leaves level place few over in
      rw (below_false (2 ^ level) leaves few) (stands_lowered h count top leaves level (2 * place) d lower.0 (only_under h count level place d top lower.1 under))
]
