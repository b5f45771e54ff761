-- Columns of coefficients, all scaled by one factor.
use Rattle.std.proofs.Common.{◌≡◌, ◌∙◌, ℕ, ◌+◌, ◌*◌, ◌<◌, List, [], ◌∷◌, length, get_or, refl, sym, ap, arith}
use Rattle.std.proofs.lemmas.List.{ext_get_or, length-map}
use Rattle.std.proofs.lemmas.Nat.{mul-add-lt}
use Rattle.math_theory.specs.Laws.{IsEquality, IsGroup, IsProduct, IsRing}
use Rattle.math_theory.specs.OverRing as OverRing
use Rattle.math_theory.specs.Powers.{power}
use Rattle.math_theory.specs.Rings.{CommutativeRing}
use Rattle.math_theory.proofs.classes.Classes.{Class, class, class_same, same_class, ring_of_classes}
use Rattle.math_theory.proofs.classes.ClassesOfLists.{value-class}
use Rattle.math_theory.proofs.classes.RingUpToSame.{combine_same}
use Rattle.math_theory.proofs.polynomials.Coefficients.{coefficient-multiple}
use Rattle.math_theory.proofs.polynomials.Values.{value-multiple}
use Rattle.math_theory.proofs.rings.Normal.{◌⊗◌, 𝟙, v0, v1, v2}
use Rattle.math_base.specs.Members.{RingOf}
use Rattle.math_base.specs.Polynomials.{value_in_ring}
use Rattle.math_transforms.specs.CosetValues.{AreMultiplesAtPowers}
use Rattle.math_transforms.specs.DomainValues.{matrix_of, AreValuesAtPowers}
use Rattle.math_transforms.specs.Matrices.{column_of}
use Rattle.math_transforms.proofs.ColumnHalves.{classes_of_column, length-classes_of_column, at-place}

module _ {A : Type 0} (R : RingOf A) (E : IsEquality R.same) (G : IsGroup R.same R.zero R.sum R.negative) (P : IsProduct R.same R.product) (L : IsRing R.same R.sum R.product R.one)
    (n c : ℕ) where
  abbrev C : CommutativeRing (Class E)
  C = ring_of_classes E G P L

  abbrev column : ℕ → List A → List (Class E)
  column k xs = classes_of_column R E G P L n c k xs

  count : (k : ℕ) (xs : List A) → length (column k xs) ≡ n
  count k xs = length-classes_of_column R E G P L n c k xs

  abbrev value : ℕ → List A → A → A
  value k xs x = value_in_ring R (column_of R.zero (matrix_of n c xs) k) x

  -- the value of a scaled column is the scaled value
  pub value-scaled : (f x : A) (old new : List A) → length old ≡ n * c → length new ≡ n * c
      → ((p : ℕ) → p < length old → R.same (get_or new p R.zero) (R.product (get_or old p R.zero) f))
      → (k : ℕ) → k < c → R.same (value k new x) (R.product (value k old x) f)
  value-scaled f x old new d e scaled k m =
      let new_is : column k new ≡ OverRing.polynomial_multiple C (column k old) (class E f) =
      ext_get_or C.zero (column k new) (OverRing.polynomial_multiple C (column k old) (class E f))
      (count k new ∙ sym (length-map (column k old) (λ y. C.product y (class E f)) ∙ count k old))
      (λ i q.
      let place : i * c + k < length old = let z = mul-add-lt i c k n (let r : i < n = omega (arith, q, count k new) in r) m in omega (arith, z, d) in
      at-place R E G P L n c k i new m e ∙ class_same E _ _ (scaled (i * c + k) place)
      ∙ ap (λ y. C.product y (class E f)) (sym (at-place R E G P L n c k i old m d)) ∙ sym (coefficient-multiple C (column k old) (class E f) i)) in
      same_class E _ _
      (sym (value-class E G P L x (column_of R.zero (matrix_of n c new) k)) ∙ ap (OverRing.value C (class E x)) new_is ∙ value-multiple C (class E x) (column k old) (class E f)
      ∙ ap (λ y. C.product y (class E f)) (value-class E G P L x (column_of R.zero (matrix_of n c old) k)))

  -- multiples of coefficients, scaled by 1 / 2^lg, are the coefficients
  pub values-scaled : (w : A) (lg : ℕ) (f : A) (cells old new : List A) → R.same (R.product f (power R.one R.product (R.sum R.one R.one) lg)) R.one
      → length old ≡ n * c → length new ≡ n * c → AreMultiplesAtPowers R w lg (matrix_of n c old) (matrix_of n c cells)
      → ((p : ℕ) → p < length old → R.same (get_or new p R.zero) (R.product (get_or old p R.zero) f))
      → AreValuesAtPowers R w (matrix_of n c new) (matrix_of n c cells)
  values-scaled w lg f cells old new half d e multiples scaled j k l m =
      let x = power R.one R.product w j in
      let two = power R.one R.product (R.sum R.one R.one) lg in
      let cell = get_or cells (j * c + k) R.zero in
      E.symmetric _ _
      (E.transitive _ _ _ (value-scaled f x old new d e scaled k m)
      (E.transitive _ _ _ (P.respects _ _ _ _ (E.symmetric _ _ (multiples j k l m)) (E.reflexive f))
      (combine_same E G P L (cell ∷ two ∷ f ∷ []) ((v0 ⊗ v1) ⊗ v2) v0 v0 (v2 ⊗ v1) 𝟙 half refl)))
