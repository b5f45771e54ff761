-- Values of one polynomial, as the only column of a matrix.
use Rattle.std.proofs.Common.{◌≡◌, ◌∙◌, ℕ, ◌+◌, ◌*◌, ◌^◌, ◌<◌, List, length, get_or, ap, arith}
use Rattle.std.proofs.lemmas.List.{ext_get_or}
use Rattle.std.proofs.lemmas.List.FromFn.{length-map-range_with_len, get_or-map-range_with_len}
use Rattle.math_theory.specs.Laws.{IsEquality, IsGroup, IsProduct, IsRing, IsField}
use Rattle.math_theory.specs.Powers.{power, powers}
use Rattle.math_theory.specs.RootLaws.{HasRootsOfUnity}
use Rattle.math_theory.proofs.domains.CarriedDomains.{HasCoset-of_order-same}
use Rattle.math_theory.proofs.polynomials.CarriedRoots.{agreement-same}
use Rattle.math_base.specs.Members.{RingOf}
use Rattle.math_base.specs.Polynomials.{value_in_ring}
use Rattle.math_transforms.specs.DomainValues.{one_column, AreValuesOnDomain, HasOnePolynomial, HasOneValues}
use Rattle.math_transforms.specs.Matrices.{column_of}
use Rattle.math_transforms.proofs.MatrixRows.{length-column}
use Rattle.math_transforms.proofs.MatrixRows.{cell-of_column}

module _ {A : Type 0} (R : RingOf A) (E : IsEquality R.same) where
  only_column : (xs : List A) → column_of R.zero (one_column xs) 0 ≡ xs
  only_column xs =
      ext_get_or R.zero (column_of R.zero (one_column xs) 0) xs (length-column R.zero (one_column xs) 0)
      (λ i l. cell-of_column R.zero (one_column xs) 0 i (omega arith) (omega arith) ∙ ap (λ p. get_or xs p R.zero) (let e : i * 1 + 0 ≡ i = omega arith in e))

  -- value j is at power j of the root
  value-at : (root : ℕ → A) (lg : ℕ) (a v : List A) → length a ≡ 2 ^ lg → AreValuesOnDomain R root (one_column a) (one_column v)
      → (j : ℕ) → j < 2 ^ lg → R.same (get_or v j R.zero) (value_in_ring R a (power R.one R.product (root lg) j))
  value-at root lg a v e h j l = grind (arith, only_column)

  pub values-once : (root : ℕ → A) → HasOneValues R root
  values-once root lg a v w e h k j l = E.transitive _ _ _ (value-at root lg a v e h j l) (E.symmetric _ _ (value-at root lg a w e k j l))

  pub polynomial-once : IsGroup R.same R.zero R.sum R.negative → IsProduct R.same R.product → IsRing R.same R.sum R.product R.one → {inverse : A → A} → IsField R.same R.zero R.product R.one inverse
      → {root : ℕ → A} {shift : A} {half : A → A} {greatest : ℕ} → HasRootsOfUnity R.same R.zero R.sum R.product R.one greatest root shift half → HasOnePolynomial R root greatest
  polynomial-once G P L K {root} {shift} roots lg a b v most la lb h k =
      let points = powers R.one R.product (root lg) (2 ^ lg) in
      let long : length points ≡ 2 ^ lg = length-map-range_with_len (power R.one R.product (root lg)) 0 (2 ^ lg) in
      let apart = HasCoset-of_order-same E G P L (root lg) shift (2 ^ lg) (roots.order lg most) roots.shift_is_not_zero (roots.shift_is_no_power lg most) in
      agreement-same E G P L K points a b (omega (arith, la, long)) (omega (arith, lb, long)) apart.distinct
      (λ j d l.
      let within : j < 2 ^ lg = omega (arith, l, long) in
      let point : get_or points j d ≡ power R.one R.product (root lg) j = get_or-map-range_with_len (power R.one R.product (root lg)) 0 (2 ^ lg) j j d within (omega arith) in
      rw point (E.transitive _ _ _ (E.symmetric _ _ (value-at root lg a v la h j within)) (value-at root lg b v lb k j within)))
