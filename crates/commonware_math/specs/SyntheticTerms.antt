-- One step of joining two lists of terms (index, weight) from their ends.
use Rattle.std.specs.Prelude.{◌≡◌, ◌<◌, ◌+◌, ◌⊎◌, ◌++◌, ℕ, List, [], ◌∷◌}
use Rattle.commonware_math.specs.Synthetics.{HasTerm}

-- one more than the last index, and 0 where there is no term
pub record IsIndexEnd {A : Type 0} (terms : List (ℕ × A)) (n : ℕ) : Type 0 where
  pub none : terms ≡ [] → n ≡ 0
  pub last : (before : List (ℕ × A)) (term : ℕ × A) → terms ≡ before ++ term ∷ [] → n ≡ term.0 + 1

-- each index is below i
abbrev pub AreBelow : {A : Type 0} → List (ℕ × A) → ℕ → Type 0
AreBelow terms i = (j : ℕ) → HasTerm terms j → j < i

-- the term of the greatest index leaves the end of a, or of b, or of both, where its weight is the sum of both weights
abbrev pub IsPopped : {A : Type 0} → (A → A → Type 0) → (A → A → A) → List (ℕ × A) → List (ℕ × A) → ℕ × A → List (ℕ × A) → List (ℕ × A) → Type 0
IsPopped {A} same sum a b term a_left b_left =
    ((a ≡ a_left ++ term ∷ []) × (b_left ≡ b) × AreBelow b term.0)
    ⊎ ((b ≡ b_left ++ term ∷ []) × (a_left ≡ a) × AreBelow a term.0)
    ⊎ ((v : A) × (w : A) × (a ≡ a_left ++ (term.0, v) ∷ []) × (b ≡ b_left ++ (term.0, w) ∷ []) × same term.1 (sum v w))
