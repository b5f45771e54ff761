-- One level, and the one above it.
use Rattle.std.proofs.Common.{◌≡◌, ◌≢◌, ◌⊎◌, ℕ, zero, suc, ◌+◌, ◌-◌, ◌*◌, ◌/◌, ◌%◌, ◌<◌, ◌≤◌, ◌^◌, List, [], ◌∷◌, ◌++◌, length, refl, sym, ap, ◌∙◌, arith, inl, inr, true, false}
use Rattle.std.specs.Prelude.{slice_index_or, ◌==◌}
use Rattle.std.proofs.lemmas.Bool.{cases_Bool, and_parts, and_cases, both_ways, eqb-true, eqb-false}
use Rattle.hash_trees.specs.Trees.{above, half, is_alone, neighbour, node_message, on_level, step_message}
use Rattle.hash_trees.specs.Binding.{Collide, HasDigests}
use Rattle.hash_trees.proofs.Collisions.{same_or_not, apart}

-- each is a digest
abbrev pub AreDigests : List (List ℕ) → Type 0
AreDigests [] = Unit {0}
AreDigests (d ∷ ds) = (length d ≡ 32) × AreDigests ds

-- a level of at most a power of two nodes has half that power above it
pub half_of_power : (k n : ℕ) → n ≤ 2 ^ suc k → half n ≤ 2 ^ k
half_of_power k n l = let twice : 2 ^ suc k ≡ 2 * 2 ^ k = grind arith in omega (arith, twice)

pub length-above : (h : List ℕ → List ℕ) (xs : List (List ℕ)) → length (above h xs) ≡ half (length xs)
length-above h [] = refl
length-above h (x ∷ []) = refl
length-above h (x ∷ (y ∷ xs)) = let before = length-above h xs in omega (arith, before)

pub length-on_level : (xs : List (List ℕ)) → length (on_level xs) ≡ length xs / 2
length-on_level [] = refl
length-on_level (x ∷ []) = refl
length-on_level (x ∷ (y ∷ xs)) = let before = length-on_level xs in omega (arith, before)

pub digests-above : (h : List ℕ → List ℕ) (xs : List (List ℕ)) → HasDigests h → AreDigests xs → AreDigests (above h xs)
digests-above h [] k d = tt
digests-above h (x ∷ []) k d = d
digests-above h (x ∷ (y ∷ xs)) k d = (k (node_message x y), digests-above h xs k d.1.1)

-- the level above binds a level
pub level_binds : (h : List ℕ → List ℕ) (xs ys : List (List ℕ)) → AreDigests xs → AreDigests ys → length xs ≡ length ys → above h xs ≡ above h ys
    → (xs ≡ ys) ⊎ Collide h (on_level xs) (on_level ys)
level_binds h [] [] p q l e = inl refl
level_binds h [] (y ∷ ys) p q l e = absurd (omega (arith, l))
level_binds h (x ∷ xs) [] p q l e = absurd (omega (arith, l))
level_binds h (x ∷ []) (y ∷ []) p q l e = inl e
level_binds h (x ∷ []) (y ∷ (z ∷ ys)) p q l e = absurd (omega (arith, l))
level_binds h (x ∷ (y ∷ xs)) (z ∷ []) p q l e = absurd (omega (arith, l))
level_binds h (a ∷ (b ∷ xs)) (c ∷ (d ∷ ys)) p q l e =
    let heads : h (node_message a b) ≡ h (node_message c d) = cc in
    let tails : above h xs ≡ above h ys = cc in
    elim (same_or_not (node_message a b) (node_message c d)) [
      | inr differ ↦ inr (inl (differ, heads))
      | inl same ↦
          let joined : a ++ b ≡ c ++ d = cc in
          let parts = apart a c b d (p.0 ∙ sym q.0) joined in
          elim (level_binds h xs ys p.1.1 q.1.1 (omega (arith, l)) tails) [ inl rest ↦ inl (rw (parts.0, parts.1, rest) refl) | inr f ↦ inr (inr f) ]
    ]

-- the node above two
pub pair_at : (h : List ℕ → List ℕ) (xs : List (List ℕ)) (j : ℕ) → 2 * j + 1 < length xs
    → slice_index_or (above h xs) j [] ≡ h (node_message (slice_index_or xs (2 * j) []) (slice_index_or xs (2 * j + 1) []))
pair_at h [] j l = absurd (omega (arith, l))
pair_at h (x ∷ []) j l = absurd (omega (arith, l))
pair_at h (x ∷ (y ∷ xs)) zero l = refl
pair_at h (x ∷ (y ∷ xs)) (suc j) l =
    let left : 2 * suc j ≡ suc (suc (2 * j)) = omega arith in
    let right : 2 * suc j + 1 ≡ suc (suc (2 * j + 1)) = omega arith in
    rw (right, left) (pair_at h xs j (omega (arith, l)))

-- the last one, which is alone
pub last_at : (h : List ℕ → List ℕ) (xs : List (List ℕ)) (j : ℕ) → 2 * j + 1 ≡ length xs → slice_index_or (above h xs) j [] ≡ slice_index_or xs (2 * j) []
last_at h [] j l = absurd (omega (arith, l))
last_at h (x ∷ []) zero l = refl
last_at h (x ∷ []) (suc j) l = absurd (omega (arith, l))
last_at h (x ∷ (y ∷ xs)) zero l = absurd (omega (arith, l))
last_at h (x ∷ (y ∷ xs)) (suc j) l =
    let left : 2 * suc j ≡ suc (suc (2 * j)) = omega arith in
    rw left (last_at h xs j (omega (arith, l)))

-- the node above one that is alone is that one
pub above_alone : (h : List ℕ → List ℕ) (xs : List (List ℕ)) (i : ℕ) → is_alone (length xs) i ≡ true → slice_index_or (above h xs) (i / 2) [] ≡ slice_index_or xs i []
unfolding is_alone
above_alone h xs i t =
    let parts = and_parts (i % 2 == 0) (i + 1 == length xs) t in
    let even : i % 2 ≡ 0 = eqb-true (i % 2) 0 parts.0 in
    let last : i + 1 ≡ length xs = eqb-true (i + 1) (length xs) parts.1 in
    let twice : 2 * (i / 2) ≡ i = omega arith in
    last_at h xs (i / 2) (omega arith) ∙ ap (λ k. slice_index_or xs k []) twice

-- the node above another one is that of it and its neighbour
pub above_step : (h : List ℕ → List ℕ) (xs : List (List ℕ)) (i : ℕ) → i < length xs → is_alone (length xs) i ≡ false
    → slice_index_or (above h xs) (i / 2) [] ≡ h (step_message i (slice_index_or xs i []) (slice_index_or xs (neighbour i) []))
unfolding is_alone
above_step h xs i l f = elim (cases_Bool (i % 2 == 0)) [
  | inl t ↦
      let even : i % 2 ≡ 0 = eqb-true (i % 2) 0 t in
      let twice : 2 * (i / 2) ≡ i = omega arith in
      let last : i + 1 ≢ length xs = elim (and_cases (i % 2 == 0) (i + 1 == length xs) f) [
        | inl g ↦ absurd (both_ways (i % 2 == 0) g t)
        | inr g ↦ eqb-false (i + 1) (length xs) g
      ] in
      let within : 2 * (i / 2) + 1 < length xs = omega (arith, last) in
      rw t (pair_at h xs (i / 2) within ∙ ap (λ k. h (node_message (slice_index_or xs k []) (slice_index_or xs (k + 1) []))) twice)
  | inr g ↦
      let odd : i % 2 ≢ 0 = eqb-false (i % 2) 0 g in
      let left : 2 * (i / 2) ≡ i - 1 = omega (arith, odd) in
      let right : 2 * (i / 2) + 1 ≡ i = omega (arith, odd) in
      let within : 2 * (i / 2) + 1 < length xs = omega (arith, odd) in
      rw g (
      pair_at h xs (i / 2) within
      ∙ ap (λ k. h (node_message (slice_index_or xs k []) (slice_index_or xs (2 * (i / 2) + 1) []))) left
      ∙ ap (λ k. h (node_message (slice_index_or xs (i - 1) []) (slice_index_or xs k []))) right
      )
]
