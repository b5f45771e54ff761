-- Indices that rise, each once: how many there are, and that each has one place.
use Rattle.std.proofs.Common.{◌≡◌, inl, inr, ℕ, ◌<◌, ◌≤◌, List, length, map, get_or, arith}
use Rattle.std.specs.List.{All, Contains}
use Rattle.std.specs.List.Sorted.{IsStrictlyIncreasing}
use Rattle.std.proofs.lemmas.Bool.{cases_lt}
use Rattle.std.proofs.lemmas.List.{get_or-map, length-map}
use Rattle.std.proofs.lemmas.List.Elements.{All-contains, All-contains_itself, All-weaker}
use Rattle.std.proofs.lemmas.Map.Keys.{below_from_sorted, sorted_from_strictly_increasing}
use Rattle.math_restoring.specs.Restored.{AreDistinct}
use Rattle.math_shards.specs.Fitting.{distinct_among}
use Rattle.math_shards.proofs.ChosenRows.{distinct-kept, distinct-most}
use Rattle.math_shards.proofs.RestoredRows.{distinct-count}

module _ (indices : List ℕ) (rising : IsStrictlyIncreasing indices) where
  later : (i j : ℕ) → i < j → j < length indices → get_or indices i 0 < get_or indices j 0
  later i j before l = below_from_sorted indices i j 0 (sorted_from_strictly_increasing indices rising) before l

  -- each has one place
  pub one_place : (i j : ℕ) → i < length indices → j < length indices → get_or indices i 0 ≡ get_or indices j 0 → i ≡ j
  one_place i j l m e = elim (cases_lt i j) as (λ _. i ≡ j) [
    | inl b ↦ absurd (omega (arith, e, later i j b m))
    | inr c ↦ elim (cases_lt j i) as (λ _. i ≡ j) [
      | inl b ↦ absurd (omega (arith, e, later j i b l))
      | inr d ↦ omega (arith, c, d)
    ]
  ]

  pub are_distinct : AreDistinct indices
  are_distinct i j before l e = omega (arith, e, later i j before l)

  -- where they are those of others, below n, as many of these are distinct as there are
  pub count_distinct : (n : ℕ) (others : List ℕ) → All (λ i. i < n) others → ((i : ℕ) → (Contains indices i → Contains others i) × (Contains others i → Contains indices i))
      → length indices ≡ distinct_among n others
  count_distinct n others below exactly =
      let among : All (Contains others) indices =
      All-weaker (Contains indices) (Contains others) (λ i there. (exactly i).0 there) indices (All-contains_itself indices) in
      let back : All (Contains indices) others = All-weaker (Contains others) (Contains indices) (λ i there. (exactly i).1 there) others (All-contains_itself others) in
      let least : length indices ≤ distinct_among n indices =
      distinct-count n indices are_distinct (λ k d l. All-contains (λ i. i < n) others (get_or indices k d) below (among k d l)) in
      omega (arith, least, distinct-kept n indices others among, distinct-kept n others indices back, distinct-most n indices)

-- where the indices of rows are among some, so is that of each row
pub are_among : {R : Type 0} (index : R → ℕ) (indices : List ℕ) (rows : List R) → ((i : ℕ) → Contains (map index rows) i → Contains indices i)
    → All (λ row. Contains indices (index row)) rows
are_among index indices rows all k d l =
    all (index (get_or rows k d)) (k, omega (arith, l, length-map rows index), get_or-map index rows k d (index (get_or rows k d)) l)
