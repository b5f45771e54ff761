-- Cells that are filled up with zeros.
use Rattle.std.proofs.Common.{◌≡◌, ℕ, zero, suc, ◌<◌, List, [], ◌∷◌, ◌++◌, length, get_or, arith}
use Rattle.std.specs.List.{All}
use Rattle.std.proofs.lemmas.List.{append_assoc}
use Rattle.std.proofs.lemmas.List.Elements.{All-append}
use Rattle.math_transforms.specs.Matrices.{AreFilledUp}

All-one : {A : Type 0} (P : A → Type 0) (x : A) → P x → All P (x ∷ [])
All-one P x h zero d l = h
All-one P x h (suc k) d l = absurd (omega arith)

module _ {A : Type 0} (same : A → A → Type 0) (zero_of : A) where
  abbrev is_zero : A → Type 0
  is_zero cell = same cell zero_of

  -- with one zero more
  pub filled-more : (items cells new : List A) (cell : A) → new ≡ cells ++ cell ∷ [] → is_zero cell → AreFilledUp same zero_of items cells → AreFilledUp same zero_of items new
  filled-more items cells new cell e z h =
      (h.0 ++ cell ∷ [], rw (e, h.1) (append_assoc items h.0 (cell ∷ [])), All-append is_zero h.0 (cell ∷ []) h.2 (All-one is_zero cell z))

  -- with no items each cell is zero
  pub filled-zero : (items cells : List A) (k : ℕ) → items ≡ [] → k < length cells → AreFilledUp same zero_of items cells → is_zero (get_or cells k zero_of)
  filled-zero items cells k e l h = grind arith
