-- The places at which something does not hold, gathered one after the other.
use Rattle.std.proofs.Common.{◌≡◌, ℕ, ◌+◌, ◌<◌, List, [], ◌∷◌, ◌++◌, length, inl, inr, subst, arith}
use Rattle.std.proofs.lemmas.Bool.{cases_lt}
use Rattle.std.proofs.lemmas.List.{get_or_append_left, get_or-append-add, length-append}
use Rattle.std.proofs.lemmas.List.Elements.{All-push, Contains-push, Contains-append_left}
use Rattle.std.specs.List.{All, Contains}
use Rattle.std.specs.List.Sorted.{IsStrictlyIncreasing}

-- the places below i at which S does not hold, by rising number
pub record AreGathered (S : ℕ → Type 0) (i : ℕ) (wrong : List ℕ) : Type 0 where
  pub rising : IsStrictlyIncreasing wrong
  pub below : All (λ k. k < i) wrong
  pub differ : All (λ k. ¬ (S k)) wrong
  pub agree : (k : ℕ) → k < i → ¬ (Contains wrong k) → S k

rising-pushed : (wrong : List ℕ) (i : ℕ) → IsStrictlyIncreasing wrong → All (λ k. k < i) wrong → IsStrictlyIncreasing (wrong ++ (i ∷ []))
rising-pushed wrong i h below k l =
    let count : length (wrong ++ (i ∷ [])) ≡ length wrong + 1 = length-append wrong (i ∷ []) in
    elim (cases_lt (k + 1) (length wrong)) [
      | inl b ↦ rw (get_or_append_left wrong (i ∷ []) 0 k (omega (arith, b)), get_or_append_left wrong (i ∷ []) 0 (k + 1) b) (h k b)
      | inr g ↦
          let e : k + 1 ≡ length wrong + 0 = omega (arith, g, l, count) in
          rw (get_or_append_left wrong (i ∷ []) 0 k (omega (arith, e)), e, get_or-append-add wrong (i ∷ []) 0 0) (below k 0 (omega (arith, e)))
    ]

-- one more place at which it does not hold
pub gathered-pushed : (S : ℕ → Type 0) (i : ℕ) (wrong : List ℕ) → ¬ (S i) → AreGathered S i wrong → AreGathered S (i + 1) (wrong ++ (i ∷ []))
gathered-pushed S i wrong n h = record {
  rising = rising-pushed wrong i h.rising h.below;
  below = All-push (λ k. k < i + 1) wrong i (λ k d l. omega (arith, h.below k d l)) (omega arith);
  differ = All-push (λ k. ¬ (S k)) wrong i h.differ n;
  agree = λ k l m. elim (cases_lt k i) [
    | inl b ↦ h.agree k b (λ c. m (Contains-append_left wrong (i ∷ []) k c))
    | inr g ↦ (let e : i ≡ k = omega (arith, l, g) in absurd (m (subst (Contains (wrong ++ (i ∷ []))) e (Contains-push wrong i))))
  ];
}

-- and one at which it does
pub gathered-passed : (S : ℕ → Type 0) (i : ℕ) (wrong : List ℕ) → S i → AreGathered S i wrong → AreGathered S (i + 1) wrong
gathered-passed S i wrong s h = record {
  rising = h.rising;
  below = λ k d l. omega (arith, h.below k d l);
  differ = h.differ;
  agree = λ k l m. elim (cases_lt k i) [
    | inl b ↦ h.agree k b m
    | inr g ↦ (let e : i ≡ k = omega (arith, l, g) in subst S e s)
  ];
}
