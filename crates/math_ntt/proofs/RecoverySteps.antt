-- The steps of a recovery between values on a domain and on its coset, in the columns of matrices whose rows are in bit-reversed order.
use Rattle.std.proofs.Common.{◌≡◌, ◌∙◌, ℕ, ◌+◌, ◌*◌, ◌^◌, ◌<◌, List, [], ◌∷◌, length, get_or, refl, sym, ap, subst, arith}
use Rattle.math_theory.specs.BitReversal.{bit_reversed}
use Rattle.math_theory.specs.Domains.{HasExactOrder}
use Rattle.math_theory.specs.Laws.{IsEquality, IsGroup, IsProduct, IsRing, IsField}
use Rattle.math_theory.specs.Powers.{power}
use Rattle.math_theory.proofs.classes.RingUpToSame.{combine2_same}
use Rattle.math_theory.proofs.polynomials.BuiltPolynomials.{value-at}
use Rattle.math_theory.proofs.rings.Normal.{◌⊗◌, 𝟘, 𝟙, v0, v1, v2, v3, v4}
use Rattle.math_theory.proofs.transforms.BitOrder.{bit_reversed-below, bit_reversed-twice}
use Rattle.math_base.specs.Members.{RingOf}
use Rattle.math_base.specs.Polynomials.{value_in_ring}
use Rattle.math_transforms.specs.CombinedCells.{AreRowsReversed}
use Rattle.math_transforms.specs.CosetValues.{AreReversedValues, AreReversedMultiples}
use Rattle.math_transforms.specs.DomainValues.{matrix_of}
use Rattle.math_transforms.specs.Matrices.{column_of}
use Rattle.math_transforms.specs.RootTrees.{IsTreeOf, AreValuesBelow, AreMultiplesBelow}
use Rattle.math_transforms.specs.RowProducts.{AreRowProducts}
use Rattle.math_transforms.proofs.DomainSteps.{column_of-one}
use Rattle.math_transforms.proofs.TreeValues.{multiples-points, values-points}
use Rattle.math_ntt.specs.RecoveredRows.{AreProductsOnDomain, HaveSameValuesOnDomain, IsNonzeroOnCoset, AreQuotientsOnCoset}

module _ {A : Type 0} (R : RingOf A) (E : IsEquality R.same) (G : IsGroup R.same R.zero R.sum R.negative) (P : IsProduct R.same R.product) (L : IsRing R.same R.sum R.product R.one)
    {inverse : A → A} (K : IsField R.same R.zero R.product R.one inverse) (root : ℕ → A) (lg : ℕ) (order : HasExactOrder R.same R.one R.product (root lg) (2 ^ lg)) where
  abbrev n : ℕ
  n = 2 ^ lg

  abbrev w : A
  w = root lg

  abbrev at : ℕ → A
  at i = power R.one R.product w i

  abbrev column : ℕ → List A → ℕ → List A
  column c xs k = column_of R.zero (matrix_of n c xs) k

  abbrev two : A
  two = power R.one R.product (R.sum R.one R.one) lg

  -- what says something of the one column of a matrix says it of the list of its cells
  one-place : (t : ℕ) → t * 1 + 0 ≡ t
  one-place t = omega arith

  -- the values of a divisor by the tree of the domain
  pub values-in_order : (tree v values : List A) → length v ≡ n → IsTreeOf R root R.one lg tree → AreValuesBelow R tree lg 1 1 v values
      → (t : ℕ) → t < n → R.same (get_or values t R.zero) (value_in_ring R v (at (bit_reversed lg t)))
  values-in_order tree v values e T h t l =
      let here = rw (one-place t, column_of-one R.zero n v e) at (values-points R E G P L K root R.one lg 1 tree v values order T h t 0 l (omega arith)) in
      E.transitive _ _ _ here (value-at E G P L _ _ v (L.identity (at (bit_reversed lg t))))

  -- the cells times the values of v are those of the products
  pub products-on_domain : (c : ℕ) (v values cells turned scaled g : List A) → ((t : ℕ) → t < n → R.same (get_or values t R.zero) (value_in_ring R v (at (bit_reversed lg t))))
      → AreRowsReversed R.zero lg (matrix_of n c cells) (matrix_of n c turned) → AreRowProducts R n c (λ i. get_or values i R.zero) turned scaled
      → AreReversedValues R w lg c g scaled → AreProductsOnDomain R w (matrix_of n c cells) v (matrix_of n c g)
  products-on_domain c v values cells turned scaled g hv reversed hm hg i k l m =
      let t = bit_reversed lg i in
      let b = bit_reversed-below lg i in
      let back = bit_reversed-twice lg i l in
      let product : R.same (get_or scaled (t * c + k) R.zero) (value_in_ring R (column c g k) (at i)) =
      subst (λ j. R.same (get_or scaled (t * c + k) R.zero) (value_in_ring R (column c g k) (at j))) back (hg t k b m) in
      let cell : get_or turned (t * c + k) R.zero ≡ get_or cells (i * c + k) R.zero = reversed t k b m ∙ ap (λ j. get_or cells (j * c + k) R.zero) back in
      let value : R.same (get_or values t R.zero) (value_in_ring R v (at i)) = subst (λ j. R.same (get_or values t R.zero) (value_in_ring R v (at j))) back (hv t b) in
      E.transitive _ _ _ (E.symmetric _ _ product)
      (E.transitive _ _ _ (hm t k b m)
      (P.respects _ _ _ _ (subst (λ x. R.same x (get_or cells (i * c + k) R.zero)) (sym cell) (E.reflexive (get_or cells (i * c + k) R.zero))) value))

  -- the polynomial made from the values of the divisor has the same values on the domain
  pub values-again : (v values again : List A) → length again ≡ n → ((t : ℕ) → t < n → R.same (get_or values t R.zero) (value_in_ring R v (at (bit_reversed lg t))))
      → AreReversedValues R w lg 1 again values → HaveSameValuesOnDomain R w n v again
  values-again v values again e hv ha i l =
      let t = bit_reversed lg i in
      let b = bit_reversed-below lg i in
      let back = bit_reversed-twice lg i l in
      let here : R.same (get_or values (t * 1 + 0) R.zero) (value_in_ring R (column 1 again 0) (at (bit_reversed lg t))) = ha t 0 b (omega arith) in
      let found : R.same (get_or values t R.zero) (value_in_ring R again (at i)) =
      subst (λ j. R.same (get_or values t R.zero) (value_in_ring R again (at j))) back (rw (one-place t, column_of-one R.zero n again e) at here) in
      E.transitive _ _ _ (E.symmetric _ _ found) (subst (λ j. R.same (get_or values t R.zero) (value_in_ring R v (at j))) back (hv t b))

  module _ (s : A) where
    abbrev point : ℕ → A
    point t = R.product s (at (bit_reversed lg t))

    -- multiples of the values of one polynomial on the coset
    multiples-one : (v values : List A) → length v ≡ n → AreReversedMultiples R w s lg 1 v values → (t : ℕ) → t < n → R.same (get_or values t R.zero) (R.product (value_in_ring R v (point t)) two)
    multiples-one v values e h t l =
        let here : R.same (get_or values (t * 1 + 0) R.zero) (R.product (value_in_ring R (column 1 v 0) (point t)) two) = h t 0 l (omega arith) in
        rw (one-place t, column_of-one R.zero n v e) at here

    -- where a divisor has no zero on the coset, these are not zero
    pub nonzero-values : (f : A) (v values : List A) → length v ≡ n → R.same (R.product f two) R.one → AreReversedMultiples R w s lg 1 v values → IsNonzeroOnCoset R w s n v
        → (t : ℕ) → t < n → ¬ (R.same (get_or values t R.zero) R.zero)
    nonzero-values f v values e half h nonzero t l = λ z.
        let x = value_in_ring R v (point t) in
        let none : R.same (R.product x two) R.zero = E.transitive _ _ _ (E.symmetric _ _ (multiples-one v values e h t l)) z in
        nonzero (bit_reversed lg t) (bit_reversed-below lg t)
        (combine2_same E G P L (x ∷ two ∷ f ∷ []) v0 𝟘 v2 (v0 ⊗ v1) 𝟘 v0 𝟙 (v2 ⊗ v1) none (E.symmetric _ _ half) refl)

    -- the multiples of the values times the inverses of those of the divisor, of which each is divided by 2^lg, interpolated to 2^lg times the coefficients
    pub quotients-on_coset : (back : ℕ → A) (home f : A) (c : ℕ) (tree g v values divisors inverses multiplied q : List A) → 0 < lg → length v ≡ n
        → R.same (R.product w (back lg)) R.one → R.same (R.product s home) R.one → IsTreeOf R back home lg tree → R.same (R.product f two) R.one
        → AreReversedMultiples R w s lg 1 v divisors → AreReversedMultiples R w s lg c g values
        → ((i : ℕ) → i < n → R.same (R.product (get_or inverses i R.zero) (get_or divisors i R.zero)) f)
        → AreRowProducts R n c (λ i. get_or inverses i R.zero) values multiplied → AreMultiplesBelow R tree lg 1 c multiplied q
        → AreQuotientsOnCoset R w s (matrix_of n c g) v (matrix_of n c q)
    quotients-on_coset back home f c tree g v values divisors inverses multiplied q some e unit start_unit T half hd hg hi hm hq i k l m =
        let t = bit_reversed lg i in
        let b = bit_reversed-below lg i in
        let same_place = bit_reversed-twice lg i l in
        let r = R.product s (at i) in
        let dividend = value_in_ring R (column c g k) r in
        let divisor = value_in_ring R v r in
        let factor = get_or inverses t R.zero in
        let place : R.same (get_or values (t * c + k) R.zero) (R.product (value_in_ring R (column c g k) (point t)) two) = hg t k b m in
        let cell : R.same (get_or values (t * c + k) R.zero) (R.product dividend two) =
        subst (λ j. R.same (get_or values (t * c + k) R.zero) (R.product (value_in_ring R (column c g k) (R.product s (at j))) two)) same_place place in
        let divisor_is : R.same (get_or divisors t R.zero) (R.product divisor two) =
        subst (λ j. R.same (get_or divisors t R.zero) (R.product (value_in_ring R v (R.product s (at j))) two)) same_place (multiples-one v divisors e hd t b) in
        let whole : R.same (R.product factor (R.product divisor two)) f =
        E.transitive _ _ _ (P.respects _ _ _ _ (E.reflexive factor) (E.symmetric _ _ divisor_is)) (hi t b) in
        let value : R.same (value_in_ring R (column c q k) r) (R.product (get_or multiplied (t * c + k) R.zero) two) =
        subst (λ j. R.same (value_in_ring R (column c q k) (R.product s (at j))) (R.product (get_or multiplied (t * c + k) R.zero) two)) same_place
        (multiples-points R E G P L K root back s home lg c tree multiplied q order some unit start_unit T hq t k b m) in
        E.transitive _ _ _
        (P.respects _ _ _ _
        (E.transitive _ _ _ value (P.respects _ _ _ _ (E.transitive _ _ _ (hm t k b m) (P.respects _ _ _ _ cell (E.reflexive factor))) (E.reflexive two))) (E.reflexive divisor))
        (combine2_same E G P L (dividend ∷ two ∷ factor ∷ divisor ∷ f ∷ []) ((((v0 ⊗ v1) ⊗ v2) ⊗ v1) ⊗ v3) v0 (v0 ⊗ v1) (v2 ⊗ (v3 ⊗ v1)) v4 v0 (v4 ⊗ v1) 𝟙 whole half refl)
