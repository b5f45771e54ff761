-- Values on a domain and coefficients, in the columns of matrices.
use Rattle.std.proofs.Common.{◌≡◌, ◌∙◌, ℕ, ◌+◌, ◌*◌, ◌<◌, List, length, drop, get_or, sym, ap, arith}
use Rattle.std.proofs.lemmas.List.{get_or-take, get_or-drop, get_or_default, same_lists}
use Rattle.math_theory.specs.Laws.{IsEquality, IsGroup, IsProduct, IsRing}
use Rattle.math_theory.specs.Powers.{power}
use Rattle.math_theory.proofs.polynomials.BuiltPolynomials.{value-at, value-dilated}
use Rattle.math_base.specs.Members.{RingOf}
use Rattle.math_base.specs.Polynomials.{value_in_ring}
use Rattle.math_transforms.specs.DomainValues.{matrix_of, AreValuesAtPowers}
use Rattle.math_transforms.specs.Matrices.{column_of}
use Rattle.math_transforms.specs.RowProducts.{AreRowProducts}
use Rattle.math_transforms.proofs.MatrixRows.{length-column, column-at}

-- a cell of a column
pub column-cell : {A : Type 0} (d : A) (n c k i : ℕ) (xs : List A) → i < n → k < c → get_or (column_of d (matrix_of n c xs) k) i d ≡ get_or xs (i * c + k) d
column-cell d n c k i xs l m = column-at d (matrix_of n c xs) k i d l ∙ get_or-take c (drop (i * c) xs) k d m ∙ get_or-drop (i * c) xs k d

-- the one column is the list of the cells
pub column_of-one : {A : Type 0} (d : A) (n : ℕ) (xs : List A) → length xs ≡ n → column_of d (matrix_of n 1 xs) 0 ≡ xs
column_of-one d n xs e =
    same_lists (column_of d (matrix_of n 1 xs) 0) xs (length-column d (matrix_of n 1 xs) 0 ∙ sym e)
    (λ k f l. let b : k < n = omega (arith, l, length-column d (matrix_of n 1 xs) 0) in
    get_or_default (column_of d (matrix_of n 1 xs) 0) k f d l ∙ column-cell d n 1 0 k xs b (omega arith)
    ∙ ap (λ i. get_or xs i d) (let q : k * 1 + 0 ≡ k = omega arith in q) ∙ sym (get_or_default xs k f d (omega (arith, b, e))))

module _ {A : Type 0} (R : RingOf A) (E : IsEquality R.same) (G : IsGroup R.same R.zero R.sum R.negative) (P : IsProduct R.same R.product) (L : IsRing R.same R.sum R.product R.one)
    (w : A) (n : ℕ) where
  abbrev at : ℕ → A
  at i = power R.one R.product w i

  abbrev column : ℕ → List A → ℕ → List A
  column c xs k = column_of R.zero (matrix_of n c xs) k

  -- values of one polynomial
  pub values-one : (v values : List A) → length v ≡ n → AreValuesAtPowers R w (matrix_of n 1 v) (matrix_of n 1 values) → (i : ℕ) → i < n → R.same (get_or values i R.zero) (value_in_ring R v (at i))
  values-one v values e h i l =
      let place : i * 1 + 0 ≡ i = omega arith in
      let here : R.same (get_or values (i * 1 + 0) R.zero) (value_in_ring R (column 1 v 0) (at i)) = h i 0 l (omega arith) in
      rw (place, column_of-one R.zero n v e) at here

  -- the values of two polynomials, multiplied and interpolated
  pub values-multiplied : (left lefts right rights products all : List A) → length left ≡ n → length right ≡ n → length all ≡ n → AreValuesAtPowers R w (matrix_of n 1 left) (matrix_of n 1 lefts)
      → AreValuesAtPowers R w (matrix_of n 1 right) (matrix_of n 1 rights) → AreRowProducts R n 1 (λ i. get_or rights i R.zero) lefts products
      → AreValuesAtPowers R w (matrix_of n 1 all) (matrix_of n 1 products)
      → (i : ℕ) → i < n → R.same (value_in_ring R all (at i)) (R.product (value_in_ring R left (at i)) (value_in_ring R right (at i)))
  values-multiplied left lefts right rights products all e f g hl hr hm ha i l =
      let place : i * 1 + 0 ≡ i = omega arith in
      let here : R.same (get_or products (i * 1 + 0) R.zero) (R.product (get_or lefts (i * 1 + 0) R.zero) (get_or rights i R.zero)) = hm i 0 l (omega arith) in
      E.transitive _ _ _ (E.symmetric _ _ (values-one all products g ha i l))
      (E.transitive _ _ _ (rw place at here) (P.respects _ _ _ _ (values-one left lefts e hl i l) (values-one right rights f hr i l)))

  -- rows times powers: the value of a column at r is that at the ratio times r
  pub value-dilated_column : (c : ℕ) (s ratio : A) (cells dilated : List A) → R.same ratio s → AreRowProducts R n c (λ i. power R.one R.product ratio i) cells dilated
      → (k : ℕ) → k < c → (r : A) → R.same (value_in_ring R (column c dilated k) r) (value_in_ring R (column c cells k) (R.product s r))
  value-dilated_column c s ratio cells dilated h hd k m r =
      E.transitive _ _ _
      (value-dilated E G P L r ratio (column c cells k) (column c dilated k) (length-column R.zero (matrix_of n c dilated) k ∙ sym (length-column R.zero (matrix_of n c cells) k))
      (λ j b. let l : j < n = omega (arith, b, length-column R.zero (matrix_of n c cells) k) in
      rw (column-cell R.zero n c k j dilated l m, column-cell R.zero n c k j cells l m) (hd j k l m)))
      (value-at E G P L (R.product ratio r) (R.product s r) (column c cells k) (P.respects _ _ _ _ h (E.reflexive r)))

-- coefficients times the powers of a ratio that is same as s: the value at r is that at s r
pub value-moved : {A : Type 0} (R : RingOf A) (E : IsEquality R.same) (G : IsGroup R.same R.zero R.sum R.negative) (P : IsProduct R.same R.product)
    (L : IsRing R.same R.sum R.product R.one) (s ratio : A) (n : ℕ) (p moved : List A) → length p ≡ n → length moved ≡ n → R.same ratio s
    → AreRowProducts R n 1 (λ i. power R.one R.product ratio i) p moved → (r : A) → R.same (value_in_ring R moved r) (value_in_ring R p (R.product s r))
value-moved R E G P L s ratio n p moved lp lm h hm r =
    rw (column_of-one R.zero n moved lm, column_of-one R.zero n p lp) at (value-dilated_column R E G P L s n 1 s ratio p moved h hm 0 (omega arith) r)
