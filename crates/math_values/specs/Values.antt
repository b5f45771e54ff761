-- Powers of an element of the Goldilocks field, and words as elements of it.
use Rattle.std.specs.Prelude.{◌≡◌, ℕ, ◌<◌, List, length, map, slice_index_or, All}
use Rattle.math_theory.specs.Powers.{power}
use Rattle.math_numbers.specs.Goldilocks.{P}
use Rattle.math_fields.specs.declared.goldilocks.F.{F}
use Rattle.math_fields.specs.Elements.{residue, product}

-- each word is below P
abbrev pub AreElements : List ℕ → Type 0
AreElements words = All (λ word. word < P) words

-- the words as elements: the remainders by P
abbrev pub elements : List ℕ → List F
elements words = map residue words

-- entry i is power i of x
abbrev pub ArePowersOf : F → List F → Type 0
ArePowersOf x powers = (i : ℕ) → i < length powers → slice_index_or powers i (residue 0) ≡ power (residue 1) product x i
