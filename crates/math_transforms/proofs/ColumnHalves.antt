-- The columns of two halves of a matrix, and columns of classes.
use Rattle.std.proofs.Common.{◌≡◌, ◌∙◌, ℕ, zero, suc, ◌+◌, ◌*◌, ◌<◌, List, ◌∷◌, ◌++◌, length, map, take, drop, get_or, refl, sym, ap, ap₂, arith}
use Rattle.std.proofs.lemmas.List.{map-append, take-take, drop-take, drop-drop, length-map}
use Rattle.math_theory.specs.Laws.{IsEquality, IsGroup, IsProduct, IsRing}
use Rattle.math_theory.specs.Rings.{CommutativeRing}
use Rattle.math_theory.proofs.classes.Classes.{Class, class, ring_of_classes}
use Rattle.math_theory.proofs.classes.ClassesOfLists.{coefficient-class}
use Rattle.math_base.specs.Members.{RingOf}
use Rattle.math_transforms.specs.DomainValues.{matrix_of}
use Rattle.math_transforms.specs.Matrices.{pieces, column_of}
use Rattle.math_transforms.proofs.MatrixRows.{length-column}
use Rattle.math_transforms.proofs.MatrixRows.{cell-of_column}

module _ {A : Type 0} where
  pieces-add : (m n c : ℕ) (xs : List A) → pieces (m + n) c xs ≡ pieces m c (take (m * c) xs) ++ pieces n c (drop (m * c) xs)
  pieces-add zero n c xs = let e : 0 + n ≡ n = omega arith in let z : 0 * c ≡ 0 = omega arith in rw (e, z) refl
  pieces-add (suc m) n c xs =
      let e : suc m + n ≡ suc (m + n) = omega arith in
      let f : suc m * c ≡ c + m * c = omega arith in
      let head : take c (take (suc m * c) xs) ≡ take c xs = take-take c (suc m * c) xs (omega (arith, f)) in
      let tail : drop c (take (suc m * c) xs) ≡ take (m * c) (drop c xs) = ap (λ p. drop c (take p xs)) f ∙ drop-take c (m * c) xs in
      let rest : drop (m * c) (drop c xs) ≡ drop (suc m * c) xs = drop-drop (m * c) c xs ∙ ap (λ p. drop p xs) (sym f) in
      ap (λ p. pieces p c xs) e
      ∙ ap₂ (λ y ys. y ∷ ys) (sym head) (pieces-add m n c (drop c xs) ∙ ap₂ (λ y z. pieces m c y ++ pieces n c z) (sym tail) rest)

  -- a column of a matrix is that of its first rows, and then that of the others
  pub column-halves : (d : A) (m n c k : ℕ) (xs : List A)
      → column_of d (matrix_of (m + n) c xs) k ≡ column_of d (matrix_of m c (take (m * c) xs)) k ++ column_of d (matrix_of n c (drop (m * c) xs)) k
  column-halves d m n c k xs =
      ap (map (λ row. get_or row k d)) (pieces-add m n c xs) ∙ map-append (λ row. get_or row k d) (pieces m c (take (m * c) xs)) (pieces n c (drop (m * c) xs))

module _ {A : Type 0} (R : RingOf A) (E : IsEquality R.same) (G : IsGroup R.same R.zero R.sum R.negative) (P : IsProduct R.same R.product) (L : IsRing R.same R.sum R.product R.one) where
  abbrev C : CommutativeRing (Class E)
  C = ring_of_classes E G P L

  -- column k of n rows of c cells, by the classes of its cells
  abbrev pub classes_of_column : ℕ → ℕ → ℕ → List A → List (Class E)
  classes_of_column n c k xs = map (class E) (column_of R.zero (matrix_of n c xs) k)

  pub length-classes_of_column : (n c k : ℕ) (xs : List A) → length (classes_of_column n c k xs) ≡ n
  length-classes_of_column n c k xs = length-map (column_of R.zero (matrix_of n c xs) k) (class E) ∙ length-column R.zero (matrix_of n c xs) k

  pub at-place : (n c k i : ℕ) (xs : List A) → k < c → length xs ≡ n * c → get_or (classes_of_column n c k xs) i C.zero ≡ class E (get_or xs (i * c + k) R.zero)
  at-place n c k i xs l e = coefficient-class E G P L (column_of R.zero (matrix_of n c xs) k) i ∙ ap (class E) (cell-of_column R.zero (matrix_of n c xs) k i l e)
