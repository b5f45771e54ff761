-- Lists of which no two elements are same.
use Rattle.std.proofs.Common.{zero, suc, List, ◌∷◌, arith}
use Rattle.std.specs.List.{All}
use Rattle.math_theory.specs.Interpolation.{AreApart}

module _ {A : Type 0} (same : A → A → Type 0) where
  pub AreApart-head : (x : A) (xs : List A) → AreApart same (x ∷ xs) → All (λ y. same x y → ⊥) xs
  AreApart-head x xs h k d l = h 0 (suc k) d (omega arith) (omega arith)

  pub AreApart-tail : (x : A) (xs : List A) → AreApart same (x ∷ xs) → AreApart same xs
  AreApart-tail x xs h i j d l m = h (suc i) (suc j) d (omega arith) (omega arith)

  pub AreApart-cons : (x : A) (xs : List A) → All (λ y. same x y → ⊥) xs → AreApart same xs → AreApart same (x ∷ xs)
  AreApart-cons x xs h k zero zero d l m = absurd (omega arith)
  AreApart-cons x xs h k zero (suc j) d l m = h j d (omega arith)
  AreApart-cons x xs h k (suc i) zero d l m = absurd (omega arith)
  AreApart-cons x xs h k (suc i) (suc j) d l m = k i j d (omega arith) (omega arith)
