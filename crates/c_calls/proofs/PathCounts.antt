-- How many digests a path has: it is counted level by level.
use Rattle.std.proofs.Common.{◌≡◌, ◌∙◌, inl, inr, ℕ, zero, suc, ◌+◌, ◌/◌, ◌%◌, ◌<◌, ◌≤◌, List, length, refl, ap, arith, true, false}
use Rattle.std.proofs.lemmas.Bool.{and_parts, both_ways, cases_Bool, cases_lt, eqb-true}
use Rattle.std.specs.Prelude.{if◌then◌else◌, ◌==◌}
use Rattle.hash_trees.specs.Steps.{path_steps, steps_above}
use Rattle.hash_trees.specs.Trees.{above, half, is_alone, path, path_above}
use Rattle.hash_trees.proofs.Enough.{only_alone}
use Rattle.hash_trees.proofs.Levels.{length-above}

counted : (h : List ℕ → List ℕ) (k : ℕ) (level : List (List ℕ)) (i : ℕ) → length (path_above h k level i) ≡ steps_above k (length level) i
unfolding path_above steps_above
counted h zero level i = refl
counted h (suc k) level i =
    let higher : length (path_above h k (above h level) (i / 2)) ≡ steps_above k (half (length level)) (i / 2) =
    counted h k (above h level) (i / 2) ∙ ap (λ (n : ℕ). steps_above k n (i / 2)) (length-above h level) in
    elim (cases_Bool (is_alone (length level) i)) [ inl t ↦ rw t higher | inr f ↦ rw f (ap (λ (n : ℕ). suc n) higher) ]

-- the path of a leaf of any tree has so many digests
pub length-path : (h : List ℕ → List ℕ) (n i : ℕ) (leaves : List (List ℕ)) → length leaves ≡ n → length (path h leaves i) ≡ path_steps n i
length-path h n i leaves e = counted h (length leaves) leaves i ∙ ap (λ (m : ℕ). path_steps m i) e

-- of more nodes than one the first one has a neighbour
first_not_alone : (n : ℕ) → 2 ≤ n → is_alone n 0 ≡ false
unfolding is_alone
first_not_alone n l = elim (cases_Bool (is_alone n 0)) [
  | inl t ↦
      let parts = and_parts (0 % 2 == 0) (0 + 1 == n) t in
      let last : 0 + 1 ≡ n = eqb-true (0 + 1) n parts.1 in
      absurd (omega (arith, last, l))
  | inr f ↦ f
]

-- one that has a neighbour is not the only one
not_one : (n i : ℕ) → i < n → is_alone n i ≡ false → 2 ≤ n
not_one n i within f = grind (arith, cases_lt, both_ways, only_alone)

most-steps : (k n i : ℕ) → i < n → steps_above k n i ≤ steps_above k n 0
unfolding steps_above
most-steps zero n i within = omega arith
most-steps (suc k) n i within =
    let higher = most-steps k (half n) (i / 2) (omega (arith, within)) in
    elim (cases_Bool (is_alone n i)) [
      | inl t ↦ rw t (elim (cases_Bool (is_alone n 0)) [ inl z ↦ rw z higher | inr z ↦ rw z (omega (arith, higher)) ])
      | inr f ↦ rw (f, first_not_alone n (not_one n i within f)) (omega (arith, higher))
    ]

-- no path has more digests than that of the first leaf
pub most : (n i : ℕ) → i < n → path_steps n i ≤ path_steps n 0
most n i within = most-steps n n i within
