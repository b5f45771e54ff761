-- What holds of the values of all combinations under all generators.
use Rattle.std.specs.Prelude.{ℕ, List}
use Rattle.math_base.specs.Members.{RingOf, SpaceOf}
use Rattle.commonware_math.specs.Synthetics.{AreSameCombinations, combination_sum, combination_multiple, value_under}

-- the value under generators, over the members of the traits
abbrev pub value_in : {A B : Type 0} → SpaceOf A B → RingOf B → List A → List (ℕ × B) × A → A
value_in S R generators c = value_under R.zero R.sum S.zero S.sum S.scaling generators c

-- combinations that are same have values that are same
abbrev pub HaveSameValues : {A B : Type 0} → SpaceOf A B → RingOf B → Type 0
HaveSameValues {A} {B} S R = (generators : List A) (c d : List (ℕ × B) × A) → AreSameCombinations R.same R.zero R.sum S.same c d → S.same (value_in S R generators c) (value_in S R generators d)

-- the value of a sum is the sum of the values
abbrev pub HaveValuesOfSums : {A B : Type 0} → SpaceOf A B → RingOf B → Type 0
HaveValuesOfSums {A} {B} S R = (generators : List A) (c d : List (ℕ × B) × A)
    → S.same (value_in S R generators (combination_sum S.sum c d)) (S.sum (value_in S R generators c) (value_in S R generators d))

-- the value of a multiple is the multiple of the value
abbrev pub HaveValuesOfMultiples : {A B : Type 0} → SpaceOf A B → RingOf B → Type 0
HaveValuesOfMultiples {A} {B} S R = (generators : List A) (c : List (ℕ × B) × A) (x : B)
    → S.same (value_in S R generators (combination_multiple R.product S.scaling c x)) (S.scaling (value_in S R generators c) x)
