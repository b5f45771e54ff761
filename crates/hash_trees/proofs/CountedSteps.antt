-- How many steps a path has: they are counted level by level.
use Rattle.std.proofs.Common.{◌≡◌, ◌∙◌, inl, inr, ℕ, zero, suc, ◌/◌, ◌<◌, ◌≤◌, ◌^◌, List, [], ◌∷◌, length, refl, ap, arith, true, false}
use Rattle.std.proofs.lemmas.Bool.{cases_Bool}
use Rattle.hash_trees.specs.Trees.{LeadsAbove, half, is_alone}
use Rattle.hash_trees.specs.Steps.{PathsHaveTheirSteps, path_steps, steps_above}
use Rattle.hash_trees.proofs.BoundPaths.{alone_down, none_down, step_down}
use Rattle.hash_trees.proofs.Enough.{last_or_before, only_alone, within_power}
use Rattle.hash_trees.proofs.Levels.{half_of_power}

-- one level more adds no step
steps_stay : (k n i : ℕ) → i < n → n ≤ 2 ^ k → steps_above (suc k) n i ≡ steps_above k n i
unfolding steps_above
steps_stay zero n i within l = let alone = only_alone n i within (omega (arith, l)) in rw alone refl
steps_stay (suc k) n i within l =
    let fewer = half_of_power k n l in
    let higher = steps_stay k (half n) (i / 2) (omega (arith, within)) fewer in
    elim (cases_Bool (is_alone n i)) [ inl t ↦ rw t higher | inr f ↦ rw f (ap (λ (m : ℕ). suc m) higher) ]

steps_enough : (k n i : ℕ) → i < n → n ≤ k → steps_above k n i ≡ path_steps n i
steps_enough zero n i within l = absurd (omega (arith, within, l))
steps_enough (suc k) n i within l = elim (last_or_before n k l) [
  | inl e ↦ rw e refl
  | inr before ↦ steps_stay k n i within (within_power n k before) ∙ steps_enough k n i within before
]

-- at the root there is none
pub steps_one : (n i : ℕ) → i < n → n ≤ 1 → path_steps n i ≡ 0
unfolding steps_above
steps_one zero i within l = absurd (omega (arith, within))
steps_one (suc zero) i within l = let alone = only_alone 1 i within (omega arith) in rw alone refl
steps_one (suc (suc n)) i within l = absurd (omega (arith, l))

-- a node without a neighbour has those of the node above
pub steps_alone : (n i : ℕ) → 2 ≤ n → i < n → is_alone n i ≡ true → path_steps n i ≡ path_steps (half n) (i / 2)
unfolding steps_above
steps_alone zero i l within t = absurd (omega (arith, l))
steps_alone (suc k) i l within t = rw t (steps_enough k (half (suc k)) (i / 2) (omega (arith, within)) (omega (arith, l)))

-- and another one has one more
pub steps_step : (n i : ℕ) → 2 ≤ n → i < n → is_alone n i ≡ false → path_steps n i ≡ suc (path_steps (half n) (i / 2))
unfolding steps_above
steps_step zero i l within f = absurd (omega (arith, l))
steps_step (suc k) i l within f = rw f (ap (λ (m : ℕ). suc m) (steps_enough k (half (suc k)) (i / 2) (omega (arith, within)) (omega (arith, l))))

-- no path has more steps than levels
pub steps_below : (k n i : ℕ) → steps_above k n i ≤ k
unfolding steps_above
steps_below zero n i = omega arith
steps_below (suc k) n i =
    let higher = steps_below k (half n) (i / 2) in
    elim (cases_Bool (is_alone n i)) [ inl t ↦ rw t (omega (arith, higher)) | inr f ↦ rw f (omega (arith, higher)) ]

counted : (h : List ℕ → List ℕ) (k n i : ℕ) (d : List ℕ) (others : List (List ℕ)) (top : List ℕ) → LeadsAbove h k n i d others top → length others ≡ steps_above k n i
unfolding LeadsAbove steps_above
counted h zero n i d [] top r = refl
counted h zero n i d (o ∷ others) top r = absurd r
counted h (suc k) n i d [] top r = elim (cases_Bool (is_alone n i)) [
  | inl t ↦ rw t (counted h k (half n) (i / 2) d [] top (alone_down h k n i d [] top t r))
  | inr f ↦ absurd (none_down h k n i d top f r)
]
counted h (suc k) n i d (o ∷ others) top r = elim (cases_Bool (is_alone n i)) [
  | inl t ↦ rw t (counted h k (half n) (i / 2) d (o ∷ others) top (alone_down h k n i d (o ∷ others) top t r))
  | inr f ↦ rw f (ap (λ (m : ℕ). suc m) (counted h k (half n) (i / 2) _ others top (step_down h k n i d o others top f r)))
]

pub paths_have_their_steps : PathsHaveTheirSteps
paths_have_their_steps h n i d others top within r = counted h n n i d others top r
