-- Free generators, and the iterator that gives them.
use Rattle.std.specs.Prelude.{◌≡◌, ◌<◌, ◌+◌, ◌-◌, ◌^◌, ℕ, List, [], ◌∷◌, Option, None, Some, Result, Ok, Err}
use Rattle.commonware_math.specs.Synthetics.{HasIndices, AreSameCombinations}

-- the combination has the one index i, with weight one, and no points
pub record IsGenerator {A B : Type 0} (same : A → A → Type 0) (zero : A) (sum : A → A → A) (one : A) (same_point : B → B → Type 0) (zero_point : B) (i : ℕ) (c : List (ℕ × A) × B) : Type 0 where
  pub indices : HasIndices c.0 (λ j. j ≡ i)
  pub value : AreSameCombinations same zero sum same_point c ((i, one) ∷ [], zero_point)

-- the index after i, which has 32 bits
pub record IsNextIndex (i : ℕ) (next : Option ℕ) : Type 0 where
  pub some : i + 1 < 2 ^ 32 → next ≡ Some (i + 1)
  pub none : i + 1 ≡ 2 ^ 32 → next ≡ None

-- one call of the iterator of generators: it gives the generator of the next index and goes on to the index after it, or is refused and
-- ends
abbrev pub GivesGenerator : {C E : Type 0} → (ℕ → C → Type 0) → Option ℕ → Option (Result C E) → Option ℕ → Type 0
GivesGenerator is_generator None r after = (r ≡ None) × (after ≡ None)
GivesGenerator is_generator (Some i) None after = ⊥
GivesGenerator is_generator (Some i) (Some (Ok c)) after = is_generator i c × IsNextIndex i after
GivesGenerator is_generator (Some i) (Some (Err e)) after = after ≡ None

-- an item that is not refused is the generator of index i
abbrev pub IsGeneratorItem : {C E : Type 0} → (ℕ → C → Type 0) → ℕ → Result C E → Type 0
IsGeneratorItem is_generator i (Ok c) = is_generator i c
IsGeneratorItem is_generator i (Err e) = Unit {0}

-- item j is the generator of index i + j; after the items there is one more exactly where the index after them has 32 bits, but none after one that was refused
abbrev pub AreGenerators : {C E : Type 0} → (ℕ → C → Type 0) → ℕ → List (Result C E) → Option (Result C E) → Type 0
AreGenerators is_generator i [] None = i ≡ 2 ^ 32
AreGenerators is_generator i [] (Some item) = (i < 2 ^ 32) × IsGeneratorItem is_generator i item
AreGenerators is_generator i (Ok c ∷ items) last = is_generator i c × AreGenerators is_generator (i + 1) items last
AreGenerators is_generator i (Err e ∷ items) last = (items ≡ []) × (last ≡ None)

-- how many indices there are from the next one on
abbrev pub indices_left : Option ℕ → ℕ
indices_left None = 0
indices_left (Some i) = 2 ^ 32 - i
