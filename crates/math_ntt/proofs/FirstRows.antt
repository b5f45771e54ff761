-- The first rows of a matrix.
use Rattle.std.proofs.Common.{◌≡◌, ◌∙◌, inl, inr, ℕ, zero, suc, ◌+◌, ◌*◌, ◌≤◌, List, ◌∷◌, length, take, drop, min, ap, ap₂, refl, sym, arith}
use Rattle.std.proofs.lemmas.Bool.{cases_lt}
use Rattle.std.proofs.lemmas.List.{take-take, drop-take, take_all}
use Rattle.math_transforms.specs.Matrices.{pieces}
use Rattle.math_transforms.proofs.MatrixRows.{length-pieces}

module _ {A : Type 0} where
  -- the first items are cut into the first pieces
  pieces-first : (l n c : ℕ) (xs : List A) → l ≤ n → pieces l c (take (l * c) xs) ≡ take l (pieces n c xs)
  pieces-first zero n c xs h = refl
  pieces-first (suc l) zero c xs h = absurd (omega arith)
  pieces-first (suc l) (suc n) c xs h =
      let e : suc l * c ≡ c + l * c = omega arith in
      let head : take c (take (suc l * c) xs) ≡ take c xs = take-take c (suc l * c) xs (omega (arith, e)) in
      let tail : drop c (take (suc l * c) xs) ≡ take (l * c) (drop c xs) = ap (λ p. drop c (take p xs)) e ∙ drop-take c (l * c) xs in
      ap₂ (λ y ys. y ∷ ys) head (ap (pieces l c) tail ∙ pieces-first l n c (drop c xs) (omega arith))

  pub first_rows : (k n l c : ℕ) (xs : List A) → l ≡ min k n → pieces l c (take (l * c) xs) ≡ take k (pieces n c xs)
  first_rows k n l c xs e =
      let whole : length (pieces n c xs) ≡ n = length-pieces n c xs in
      pieces-first l n c xs (omega (arith, e)) ∙ elim (cases_lt k n) [
        | inl m ↦ ap (λ p. take p (pieces n c xs)) (let f : l ≡ k = omega (arith, e, m) in f)
        | inr m ↦ take_all l (pieces n c xs) (omega (arith, e, m, whole)) ∙ sym (take_all k (pieces n c xs) (omega (arith, m, whole)))
      ]
