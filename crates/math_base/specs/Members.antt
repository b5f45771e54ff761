-- The ghost members of the traits as records, and the words that clauses say over them.
use Rattle.std.specs.Prelude.{List, Option, ℕ, Bool}
use Rattle.math_theory.specs.Values.{value_over}

-- the members of a `Ring` and of its supertraits
abbrev pub RingOf : Type 0 → Type 1
RingOf A = record { product : A → A → A; debug_output : A → Option (List ℕ); same : A → A → Type 0; NEVER_REFUSES : Bool; zero : A; sum : A → A → A; negative : A → A; one : A }

-- the members of a `Space` over scalars B and of its supertraits
abbrev pub SpaceOf : Type 0 → Type 0 → Type 1
SpaceOf A B = record { debug_output : A → Option (List ℕ); same : A → A → Type 0; NEVER_REFUSES : Bool; zero : A; sum : A → A → A; negative : A → A; scaling : A → B → A }

-- the value at r of the polynomial with coefficients a in a space: the sum of a_i scaled by r to the power i
abbrev pub value : {A B : Type 0} → SpaceOf A B → RingOf B → List A → B → A
value S R a r = value_over S.zero S.sum S.scaling R.one R.product r a
