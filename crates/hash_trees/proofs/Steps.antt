-- What holds one level up, as the code goes up.
use Rattle.std.proofs.Common.{◌≡◌, ◌≢◌, inl, inr, ℕ, zero, suc, ◌+◌, ◌-◌, ◌/◌, ◌%◌, ◌<◌, ◌≤◌, ◌↔◌, List, [], ◌∷◌, length, drop, refl, sym, arith, true, false}
use Rattle.std.specs.Prelude.{slice_index_or, ◌==◌}
use Rattle.std.proofs.lemmas.Bool.{cases_Bool, and_cases, both_ways, eqb-false}
use Rattle.hash_trees.specs.Trees.{LeadsAbove, LeadsTo, above, half, is_alone, neighbour, path, path_above, root, root_above, step_message}
use Rattle.hash_trees.proofs.BoundPaths.{alone_down, alone_up, none_down, step_down, step_up}
use Rattle.hash_trees.proofs.Enough.{leads_enough, only_alone, path_enough, root_enough}
use Rattle.hash_trees.proofs.Levels.{length-above}

-- the root of one node is that node
pub root_one : (h : List ℕ → List ℕ) (nodes : List (List ℕ)) (d : List ℕ) → 1 ≤ length nodes → length nodes ≤ 1 → root h nodes ≡ slice_index_or nodes 0 d
unfolding root_above
root_one h [] d some l = absurd (omega (arith, some))
root_one h (x ∷ []) d some l = refl
root_one h (x ∷ (y ∷ nodes)) d some l = absurd (omega (arith, l))

-- of no node it is empty
pub root_none : (h : List ℕ → List ℕ) (nodes : List (List ℕ)) → length nodes ≡ 0 → root h nodes ≡ []
unfolding root_above
root_none h [] e = refl
root_none h (x ∷ nodes) e = absurd (omega (arith, e))

-- and that of more is that of the level above
pub root_up : (h : List ℕ → List ℕ) (nodes : List (List ℕ)) → 2 ≤ length nodes → root h nodes ≡ root h (above h nodes)
unfolding root_above
root_up h [] l = absurd (omega (arith, l))
root_up h (x ∷ nodes) l =
    let size = length-above h (x ∷ nodes) in
    root_enough h (length nodes) (above h (x ∷ nodes)) (omega (arith, size, l))

-- so the level above nodes has their root
pub root_of_above : (h : List ℕ → List ℕ) (nodes : List (List ℕ)) → root h (above h nodes) ≡ root h nodes
root_of_above h [] = refl
root_of_above h (x ∷ []) = refl
root_of_above h (x ∷ (y ∷ nodes)) = sym (root_up h (x ∷ (y ∷ nodes)) (omega arith))

pub path_one : (h : List ℕ → List ℕ) (nodes : List (List ℕ)) (i : ℕ) → i < length nodes → length nodes ≤ 1 → path h nodes i ≡ []
unfolding path_above
path_one h [] i within l = refl
path_one h (x ∷ []) i within l = let alone = only_alone 1 i within (omega arith) in rw alone refl
path_one h (x ∷ (y ∷ nodes)) i within l = absurd (omega (arith, l))

pub path_alone : (h : List ℕ → List ℕ) (nodes : List (List ℕ)) (i : ℕ) → 2 ≤ length nodes → i < length nodes → is_alone (length nodes) i ≡ true
    → path h nodes i ≡ path h (above h nodes) (i / 2)
unfolding path_above
path_alone h [] i l within t = absurd (omega (arith, l))
path_alone h (x ∷ nodes) i l within t =
    let size = length-above h (x ∷ nodes) in
    rw t (path_enough h (length nodes) (above h (x ∷ nodes)) (i / 2) (omega (arith, size, within)) (omega (arith, size, l)))

pub path_step : (h : List ℕ → List ℕ) (nodes : List (List ℕ)) (i : ℕ) → 2 ≤ length nodes → i < length nodes → is_alone (length nodes) i ≡ false
    → path h nodes i ≡ slice_index_or nodes (neighbour i) [] ∷ path h (above h nodes) (i / 2)
unfolding path_above
path_step h [] i l within f = absurd (omega (arith, l))
path_step h (x ∷ nodes) i l within f =
    let size = length-above h (x ∷ nodes) in
    let higher = path_enough h (length nodes) (above h (x ∷ nodes)) (i / 2) (omega (arith, size, within)) (omega (arith, size, l)) in
    rw (f, higher) refl

some_not_none : (o : List ℕ) (others : List (List ℕ)) → o ∷ others ≢ []
some_not_none o others e = cc

-- at the root the path is used up, and the digest is the root
pub leads_one : (h : List ℕ → List ℕ) (n i : ℕ) (d : List ℕ) (others : List (List ℕ)) (top : List ℕ) → i < n → n ≤ 1 → LeadsTo h n i d others top ↔ ((others ≡ []) × (d ≡ top))
unfolding LeadsAbove
leads_one h zero i d others top within l = absurd (omega (arith, within))
leads_one h (suc zero) i d [] top within l =
    let alone = only_alone 1 i within (omega arith) in
    (λ r. (refl, alone_down h zero 1 i d [] top alone r), λ r. alone_up h zero 1 i d [] top alone r.1)
leads_one h (suc zero) i d (o ∷ others) top within l =
    let alone = only_alone 1 i within (omega arith) in
    (λ r. absurd (alone_down h zero 1 i d (o ∷ others) top alone r), λ r. absurd (some_not_none o others r.0))
leads_one h (suc (suc n)) i d others top within l = absurd (omega (arith, l))

pub leads_alone : (h : List ℕ → List ℕ) (n i : ℕ) (d : List ℕ) (others : List (List ℕ)) (top : List ℕ) → 2 ≤ n → i < n → is_alone n i ≡ true
    → LeadsTo h n i d others top ↔ LeadsTo h (half n) (i / 2) d others top
leads_alone h zero i d others top l within t = absurd (omega (arith, l))
leads_alone h (suc k) i d others top l within t =
    let higher = leads_enough h k (half (suc k)) (i / 2) d others top (omega (arith, within)) (omega (arith, l)) in
    (λ r. higher.0 (alone_down h k (suc k) i d others top t r), λ r. alone_up h k (suc k) i d others top t (higher.1 r))

pub leads_step : (h : List ℕ → List ℕ) (n i : ℕ) (d : List ℕ) (others : List (List ℕ)) (top : List ℕ) → 2 ≤ n → i < n → is_alone n i ≡ false → 1 ≤ length others
    → LeadsTo h n i d others top ↔ LeadsTo h (half n) (i / 2) (h (step_message i d (slice_index_or others 0 []))) (drop 1 others) top
leads_step h zero i d others top l within f some = absurd (omega (arith, l))
leads_step h (suc k) i d [] top l within f some = absurd (omega (arith, some))
leads_step h (suc k) i d (o ∷ others) top l within f some =
    let higher = leads_enough h k (half (suc k)) (i / 2) (h (step_message i d o)) others top (omega (arith, within)) (omega (arith, l)) in
    (λ r. higher.0 (step_down h k (suc k) i d o others top f r), λ r. step_up h k (suc k) i d o others top f (higher.1 r))

pub leads_short : (h : List ℕ → List ℕ) (n i : ℕ) (d : List ℕ) (others : List (List ℕ)) (top : List ℕ) → 2 ≤ n → is_alone n i ≡ false → length others < 1
    → LeadsTo h n i d others top → ⊥
leads_short h zero i d others top l f none r = absurd (omega (arith, l))
leads_short h (suc k) i d [] top l f none r = none_down h k (suc k) i d top f r
leads_short h (suc k) i d (o ∷ others) top l f none r = absurd (omega (arith, none))

pub empty_from : (xs : List (List ℕ)) → length xs ≡ 0 → xs ≡ []
empty_from [] e = refl
empty_from (x ∷ xs) e = absurd (omega (arith, e))

pub neighbour_within : (n i : ℕ) → i < n → is_alone n i ≡ false → neighbour i < n
unfolding is_alone
neighbour_within n i l f = elim (cases_Bool (i % 2 == 0)) [
  | inl t ↦
      let last : i + 1 ≢ n = elim (and_cases (i % 2 == 0) (i + 1 == n) f) [ inl g ↦ absurd (both_ways (i % 2 == 0) g t) | inr g ↦ eqb-false (i + 1) n g ] in
      let within : i + 1 < n = omega (arith, last) in
      rw t within
  | inr g ↦ let within : i - 1 < n = omega arith in rw g within
]
