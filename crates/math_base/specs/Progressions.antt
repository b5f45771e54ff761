-- Geometric progressions, whose items may be refused.
use Rattle.std.specs.Prelude.{◌≡◌, ℕ, suc, List, [], ◌∷◌, Option, None, Some, Result, Ok, Err}
use Rattle.math_theory.specs.Powers.{power}

-- one step of a geometric progression: from the next power it gives that power, or is refused and ends, and leaves the product with the
-- base
abbrev pub GivesPower : {A E : Type 0} → (A → A → Type 0) → (A → A → A) → A → Option A → Option (Result A E) → Option A → Type 0
GivesPower same product base None None after = after ≡ None
GivesPower same product base None (Some item) after = ⊥
GivesPower same product base (Some power) None after = ⊥
GivesPower same product base (Some power) (Some (Err e)) after = after ≡ None
GivesPower same product base (Some power) (Some (Ok item)) None = ⊥
GivesPower same product base (Some power) (Some (Ok item)) (Some next) = same item power × same next (product power base)

-- an item that is not refused is shift times the power i of base
abbrev IsTerm : {A E : Type 0} → (A → A → Type 0) → (A → A → A) → A → A → A → ℕ → Result A E → Type 0
IsTerm same product one shift base i (Ok item) = same item (product shift (power one product base i))
IsTerm same product one shift base i (Err e) = Unit {0}

-- item j is shift times the power i + j of base; after the items there is one more, but none after one that was refused
abbrev pub AreGeometric : {A E : Type 0} → (A → A → Type 0) → (A → A → A) → A → A → A → ℕ → List (Result A E) → Option (Result A E) → Type 0
AreGeometric same product one shift base i [] None = ⊥
AreGeometric same product one shift base i [] (Some item) = IsTerm same product one shift base i item
AreGeometric same product one shift base i (Ok item ∷ items) last = same item (product shift (power one product base i)) × AreGeometric same product one shift base (suc i) items last
AreGeometric same product one shift base i (Err e ∷ items) last = (items ≡ []) × (last ≡ None)
