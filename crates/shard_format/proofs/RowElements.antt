-- Words of a row as elements.
use Rattle.std.proofs.Common.{◌≡◌, ◌≢◌, inl, inr, ℕ, ◌+◌, ◌-◌, ◌<◌, ◌≤◌, ◌^◌, Bool, true, false, refl, subst, arith}
use Rattle.std.proofs.lemmas.Bool.{cases_lt, le-ltb, lt-ltb}
use Rattle.math_numbers.specs.Goldilocks.{P}
use Rattle.systematic_shards.specs.Masks.{masked_number}
use Rattle.systematic_shards.specs.Shards.{IsElementIn, mask_of_row}
use Rattle.systematic_shards.proofs.Elements.{mask-data, mask-parity}
use Rattle.systematic_shards.proofs.Masks.{mask-nothing, masked-below}
use Rattle.shard_format.specs.Rows.{bound_of_row}

-- what holds below k, and of k, holds below k + 1
pub all-more : (Q : ℕ → Type 0) (k : ℕ) → ((j : ℕ) → j < k → Q j) → Q k → (j : ℕ) → j < k + 1 → Q j
all-more Q k before here j l = elim (cases_lt j k) as (λ _. Q j) [
  | inl less ↦ before j less
  | inr more ↦ let same : k ≡ j = omega (arith, more, l) in subst Q same here
]

-- what is not false is true
pub true-unless : (b : Bool) → b ≢ false → b ≡ true
true-unless true not = refl
true-unless false not = absurd (not refl)

bound-low : (least i : ℕ) → i < least → bound_of_row least i ≡ P - 1
bound-low least i below = rw (lt-ltb i least below) refl

bound-high : (least i : ℕ) → least ≤ i → bound_of_row least i ≡ P
bound-high least i beyond = rw (le-ltb i least beyond) refl

module _ (least mask i word : ℕ) (fits : word < 2 ^ 64) (short : mask < 2 ^ 32) where
  -- a word that is below the bound under the mask is that of an element
  pub element-of-below : masked_number (mask_of_row least mask i) word < bound_of_row least i → IsElementIn least mask i word
  element-of-below below = elim (cases_lt i least) as (λ _. IsElementIn least mask i word) [
    | inl low ↦
        let less : masked_number mask word < P - 1 = rw (mask-data least mask i low, bound-low least i low) at below in
        (fits, λ _ ones. absurd (omega (arith, less, ones)), λ beyond. absurd (omega (arith, low, beyond)))
    | inr high ↦
        let less : masked_number 0 word < P = rw (mask-parity least mask i high, bound-high least i high) at below in
        (fits, λ before. absurd (omega (arith, before, high)), λ _. omega (arith, less, mask-nothing word))
  ]

  -- and that of an element is below the bound
  pub below-of-element : IsElementIn least mask i word → masked_number (mask_of_row least mask i) word < bound_of_row least i
  below-of-element are = elim (cases_lt i least) as (λ _. masked_number (mask_of_row least mask i) word < bound_of_row least i) [
    | inl low ↦
        let less = masked-below word mask fits short (are.1 low) in
        let below : masked_number mask word < P - 1 = omega (arith, less) in
        rw (mask-data least mask i low, bound-low least i low) below
    | inr high ↦
        let less : word < P = are.2 high in
        let below : masked_number 0 word < P = omega (arith, less, mask-nothing word) in
        rw (mask-parity least mask i high, bound-high least i high) below
  ]
