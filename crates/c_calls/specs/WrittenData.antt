-- Data that a call writes in front of what the caller's memory holds.
use Rattle.std.specs.Prelude.{◌≡◌, ℕ, ◌<◌, ◌≤◌, List, ◌++◌, length, drop, Option, Result, IfOk, OnErr, IfSome, IfNone}

-- the items stand in place of as many first ones, and the further ones are as they were
abbrev pub AreInFront : {A : Type 0} → List A → List A → List A → Type 0
AreInFront items old new = (length items ≤ length old) × (new ≡ items ++ drop (length items) old)

-- there are n items of which `has` holds, and they stand in front
abbrev pub IsWritten : {A : Type 0} → (List A → Type 0) → ℕ → List A → List A → Type 0
IsWritten {A} has n old new = (xs : List A) × has xs × (n ≡ length xs) × AreInFront xs old new

-- there are items of which `has` holds, and no room for them
abbrev pub LacksRoom : {A : Type 0} → (List A → Type 0) → List A → Type 0
LacksRoom {A} has old = (xs : List A) × has xs × (length old < length xs)

-- a call writes items of which `has` holds in front, and answers how many they are; where there is no room it answers none, and then, and
-- where it is refused, all is as it was
pub record WritesInFront {A E : Type 0} (has : List A → Type 0) (result : Result (Option ℕ) E) (old new : List A) : Type 0 where
  pub some : IfOk result (λ answer. IfSome answer (λ n. IsWritten has n old new))
  pub none : IfOk result (λ answer. IfNone answer (LacksRoom has old))
  pub kept : IfOk result (λ answer. IfNone answer (new ≡ old))
  pub err : OnErr result (new ≡ old)

-- there are n.0 items and n.1 positions of which `has` holds, and both stand in front
abbrev pub AreBothWritten : {A : Type 0} → (List A → List ℕ → Type 0) → (n : ℕ × ℕ) → List A → List A → List ℕ → List ℕ → Type 0
AreBothWritten {A} has n old new left left' =
    (xs : List A) × (positions : List ℕ) × has xs positions × (n.0 ≡ length xs) × AreInFront xs old new × (n.1 ≡ length positions) × AreInFront positions left left'

-- a call writes items and positions of which `has` holds in front, and answers how many they are; where there is no room for the items it
-- answers none, and then, and where it is refused, all is as it was
pub record WritesBothInFront {A E : Type 0} (has : List A → List ℕ → Type 0) (result : Result (Option (ℕ × ℕ)) E) (old new : List A) (left left' : List ℕ) : Type 0 where
  pub some : IfOk result (λ answer. IfSome answer (λ n. AreBothWritten has n old new left left'))
  pub none : IfOk result (λ answer. IfNone answer ((xs : List A) × (positions : List ℕ) × has xs positions × (length old < length xs)))
  pub kept : IfOk result (λ answer. IfNone answer ((new ≡ old) × (left' ≡ left)))
  pub err : OnErr result ((new ≡ old) × (left' ≡ left))
