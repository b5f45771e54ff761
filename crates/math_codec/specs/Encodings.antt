-- What makes spellings an encoding that can be read.
use Rattle.std.specs.Prelude.{◌≡◌, ℕ, List, ◌++◌, Result, Ok}
use Rattle.math_codec.specs.Faults.{Fault}

-- a value that is spelled is read, whatever follows it
abbrev pub ReadsAgain : {T : Type 0} → (T → List ℕ) → (T → Type 0) → (List ℕ → Result (List ℕ) Fault) → Type 0
ReadsAgain {T} spelling admits scan = (v : T) (rest : List ℕ) → admits v → scan (spelling v ++ rest) ≡ Ok rest

-- no spelling begins another, and each spells one value
abbrev pub SpellsApart : {T : Type 0} → (T → List ℕ) → (T → Type 0) → (T → T → Type 0) → Type 0
SpellsApart {T} spelling admits alike = (v w : T) (x y : List ℕ) → admits v → admits w → spelling v ++ x ≡ spelling w ++ y → alike v w × (x ≡ y)
