-- As many levels as there are leaves are enough: further ones change nothing.
use Rattle.std.proofs.Common.{◌≡◌, ◌⊎◌, ℕ, zero, suc, ◌*◌, ◌/◌, ◌<◌, ◌≤◌, ◌^◌, ◌↔◌, List, [], ◌∷◌, length, refl, sym, ap, ◌∙◌, arith, inl, inr, true}
use Rattle.std.specs.Prelude.{slice_index_or}
use Rattle.std.proofs.lemmas.Bool.{cases_Bool}
use Rattle.hash_trees.specs.Trees.{LeadsAbove, above, half, is_alone, neighbour, path_above, root_above}
use Rattle.hash_trees.proofs.BoundPaths.{alone_down, alone_up, none_down, step_down, step_up}
use Rattle.hash_trees.proofs.Levels.{half_of_power, length-above}

pub one_le_power : (n : ℕ) → 1 ≤ 2 ^ n
one_le_power zero = omega arith
one_le_power (suc n) =
    let before = one_le_power n in
    let twice : 2 ^ suc n ≡ 2 * 2 ^ n = grind arith in
    omega (arith, before, twice)

pub below_power : (n : ℕ) → n ≤ 2 ^ n
below_power zero = omega arith
below_power (suc n) =
    let before = below_power n in
    let some = one_le_power n in
    let twice : 2 ^ suc n ≡ 2 * 2 ^ n = grind arith in
    omega (arith, before, some, twice)

pub within_power : (m k : ℕ) → m ≤ k → m ≤ 2 ^ k
within_power m k l = let below = below_power k in omega (arith, l, below)

-- one level more is that level itself
root_stays : (h : List ℕ → List ℕ) (k : ℕ) (level : List (List ℕ)) → length level ≤ 2 ^ k → root_above h (suc k) level ≡ root_above h k level
unfolding root_above
root_stays h zero [] l = refl
root_stays h zero (x ∷ []) l = refl
root_stays h zero (x ∷ (y ∷ level)) l = absurd (omega (arith, l))
root_stays h (suc k) level l =
    let size = length-above h level in
    let fewer = half_of_power k (length level) l in
    root_stays h k (above h level) (omega (arith, size, fewer))

pub last_or_before : (n k : ℕ) → n ≤ suc k → (n ≡ suc k) ⊎ (n ≤ k)
last_or_before n k l = grind (arith, l)

pub root_enough : (h : List ℕ → List ℕ) (k : ℕ) (level : List (List ℕ)) → length level ≤ k → root_above h k level ≡ root_above h (length level) level
root_enough h zero level l = let e : 0 ≡ length level = omega (arith, l) in rw (sym e) refl
root_enough h (suc k) level l = elim (last_or_before (length level) k l) [
  | inl e ↦ rw e refl
  | inr before ↦ root_stays h k level (within_power (length level) k before) ∙ root_enough h k level before
]

-- the only node has no neighbour
pub only_alone : (n i : ℕ) → i < n → n ≤ 1 → is_alone n i ≡ true
unfolding is_alone
only_alone n i within few =
    let one : n ≡ 1 = omega arith in
    let first : i ≡ 0 = omega arith in
    rw (one, first) refl

path_stays : (h : List ℕ → List ℕ) (k : ℕ) (level : List (List ℕ)) (i : ℕ) → i < length level → length level ≤ 2 ^ k
    → path_above h (suc k) level i ≡ path_above h k level i
unfolding path_above
path_stays h zero level i within l = let alone = only_alone (length level) i within (omega (arith, l)) in rw alone refl
path_stays h (suc k) level i within l =
    let size = length-above h level in
    let fewer = half_of_power k (length level) l in
    let higher = path_stays h k (above h level) (i / 2) (omega (arith, size, within)) (omega (arith, size, fewer)) in
    elim (cases_Bool (is_alone (length level) i)) [ inl t ↦ rw t higher | inr f ↦ rw f (ap (λ others. slice_index_or level (neighbour i) [] ∷ others) higher) ]

pub path_enough : (h : List ℕ → List ℕ) (k : ℕ) (level : List (List ℕ)) (i : ℕ) → i < length level → length level ≤ k
    → path_above h k level i ≡ path_above h (length level) level i
path_enough h zero level i within l = absurd (omega (arith, within, l))
path_enough h (suc k) level i within l = elim (last_or_before (length level) k l) [
  | inl e ↦ rw e refl
  | inr before ↦ path_stays h k level i within (within_power (length level) k before) ∙ path_enough h k level i within before
]

leads_first : (h : List ℕ → List ℕ) (n i m j : ℕ) (d : List ℕ) (others : List (List ℕ)) (top : List ℕ) → LeadsAbove h zero n i d others top → LeadsAbove h zero m j d others top
unfolding LeadsAbove
leads_first h n i m j d [] top r = r
leads_first h n i m j d (o ∷ others) top r = r

leads_up : (h : List ℕ → List ℕ) (k n i : ℕ) (d : List ℕ) (others : List (List ℕ)) (top : List ℕ) → i < n → n ≤ 2 ^ k
    → LeadsAbove h k n i d others top → LeadsAbove h (suc k) n i d others top
leads_up h zero n i d others top within l r =
    alone_up h zero n i d others top (only_alone n i within (omega (arith, l))) (leads_first h n i (half n) (i / 2) d others top r)
leads_up h (suc k) n i d [] top within l r =
    let fewer = half_of_power k n l in
    elim (cases_Bool (is_alone n i)) [
      | inl t ↦ alone_up h (suc k) n i d [] top t (leads_up h k (half n) (i / 2) d [] top (omega (arith, within)) fewer (alone_down h k n i d [] top t r))
      | inr f ↦ absurd (none_down h k n i d top f r)
    ]
leads_up h (suc k) n i d (o ∷ others) top within l r =
    let fewer = half_of_power k n l in
    elim (cases_Bool (is_alone n i)) [
      | inl t ↦ alone_up h (suc k) n i d (o ∷ others) top t (leads_up h k (half n) (i / 2) d (o ∷ others) top (omega (arith, within)) fewer (alone_down h k n i d (o ∷ others) top t r))
      | inr f ↦ step_up h (suc k) n i d o others top f (leads_up h k (half n) (i / 2) _ others top (omega (arith, within)) fewer (step_down h k n i d o others top f r))
    ]

leads_down : (h : List ℕ → List ℕ) (k n i : ℕ) (d : List ℕ) (others : List (List ℕ)) (top : List ℕ) → i < n → n ≤ 2 ^ k
    → LeadsAbove h (suc k) n i d others top → LeadsAbove h k n i d others top
leads_down h zero n i d others top within l r =
    leads_first h (half n) (i / 2) n i d others top (alone_down h zero n i d others top (only_alone n i within (omega (arith, l))) r)
leads_down h (suc k) n i d [] top within l r =
    let fewer = half_of_power k n l in
    elim (cases_Bool (is_alone n i)) [
      | inl t ↦ alone_up h k n i d [] top t (leads_down h k (half n) (i / 2) d [] top (omega (arith, within)) fewer (alone_down h (suc k) n i d [] top t r))
      | inr f ↦ absurd (none_down h (suc k) n i d top f r)
    ]
leads_down h (suc k) n i d (o ∷ others) top within l r =
    let fewer = half_of_power k n l in
    elim (cases_Bool (is_alone n i)) [
      | inl t ↦ alone_up h k n i d (o ∷ others) top t (leads_down h k (half n) (i / 2) d (o ∷ others) top (omega (arith, within)) fewer (alone_down h (suc k) n i d (o ∷ others) top t r))
      | inr f ↦ step_up h k n i d o others top f (leads_down h k (half n) (i / 2) _ others top (omega (arith, within)) fewer (step_down h (suc k) n i d o others top f r))
    ]

pub leads_enough : (h : List ℕ → List ℕ) (k n i : ℕ) (d : List ℕ) (others : List (List ℕ)) (top : List ℕ) → i < n → n ≤ k
    → LeadsAbove h k n i d others top ↔ LeadsAbove h n n i d others top
leads_enough h zero n i d others top within l = absurd (omega (arith, within, l))
leads_enough h (suc k) n i d others top within l = elim (last_or_before n k l) [
  | inl e ↦ rw e (λ r. r, λ r. r)
  | inr before ↦
      let few = within_power n k before in
      let lower = leads_enough h k n i d others top within before in
      (λ r. lower.0 (leads_down h k n i d others top within few r), λ r. leads_up h k n i d others top within few (lower.1 r))
]
