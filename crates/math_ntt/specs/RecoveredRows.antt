-- Rows of values of which some are filled, and the polynomials that are recovered from them.
use Rattle.std.specs.Prelude.{◌≡◌, ℕ, ◌+◌, ◌*◌, ◌<◌, ◌≤◌, ◌^◌, ◌⊎◌, Bool, List, length, slice_index_or, IsTrue}
use Rattle.math_theory.specs.Powers.{power}
use Rattle.math_theory.specs.Recovery.{Fits, count_true}
use Rattle.math_base.specs.Members.{RingOf}
use Rattle.math_base.specs.Polynomials.{value_in_ring}
use Rattle.math_transforms.specs.CosetValues.{AreReversedMultiples}
use Rattle.math_transforms.specs.CountedWork.{WorkOf, AddsAtMost}
use Rattle.math_transforms.specs.DomainValues.{matrix_of}
use Rattle.math_ntt.specs.AddedWork.{AddsInOrder, AddsNoneOrAll}
use Rattle.math_ntt.specs.Evaluations.{EvaluationsOf}
use Rattle.math_transforms.specs.Matrices.{MatrixOf, IsOfSize, column_of, cell_of}
use Rattle.math_transforms.specs.MissingPoints.{count_false}

-- where there are 2^lg rows, column k of v fits column k of the cells and the filled rows, at the powers of root lg
abbrev pub AreRecovered : {A : Type 0} → RingOf A → (ℕ → A) → EvaluationsOf A → MatrixOf A → Type 0
AreRecovered R root e v =
    (lg k : ℕ) → e.matrix.rows ≡ 2 ^ lg → k < e.matrix.cols
    → Fits R.same R.zero R.sum R.product R.one (root lg) (column_of R.zero e.matrix k) e.filled (column_of R.zero v k)

-- a list of as many coefficients as rows that fits column k is same as column k of v, place by place
abbrev pub AreOnlyRecovered : {A : Type 0} → RingOf A → (ℕ → A) → EvaluationsOf A → MatrixOf A → Type 0
AreOnlyRecovered {A} R root e v =
    (lg k : ℕ) → e.matrix.rows ≡ 2 ^ lg → k < e.matrix.cols → (q : List A) → length q ≡ e.matrix.rows
    → Fits R.same R.zero R.sum R.product R.one (root lg) (column_of R.zero e.matrix k) e.filled q
    → (i : ℕ) → i < e.matrix.rows → R.same (slice_index_or q i R.zero) (cell_of R.zero v i k)

-- column k of g has as its value at power i of w the cell in row i and column k of m times the value of v there
abbrev pub AreProductsOnDomain : {A : Type 0} → RingOf A → A → MatrixOf A → List A → MatrixOf A → Type 0
AreProductsOnDomain R w m v g =
    let at = power R.one R.product w in
    (i k : ℕ) → i < m.rows → k < m.cols → R.same (value_in_ring R (column_of R.zero g k) (at i)) (R.product (cell_of R.zero m i k) (value_in_ring R v (at i)))

-- both have the same values at the first n powers of w
abbrev pub HaveSameValuesOnDomain : {A : Type 0} → RingOf A → A → ℕ → List A → List A → Type 0
HaveSameValuesOnDomain R w n u v =
    let at = power R.one R.product w in
    (i : ℕ) → i < n → R.same (value_in_ring R v (at i)) (value_in_ring R u (at i))

-- v has no zero among s times the first n powers of w
abbrev pub IsNonzeroOnCoset : {A : Type 0} → RingOf A → A → A → ℕ → List A → Type 0
IsNonzeroOnCoset R w s n v =
    let at = power R.one R.product w in
    (i : ℕ) → i < n → ¬ (R.same (value_in_ring R v (R.product s (at i))) R.zero)

-- at s times power i of w the value of column k of q times the value of v is the value of column k of g
abbrev pub AreQuotientsOnCoset : {A : Type 0} → RingOf A → A → A → MatrixOf A → List A → MatrixOf A → Type 0
AreQuotientsOnCoset R w s g v q =
    let at = power R.one R.product w in
    (i k : ℕ) → i < g.rows → k < g.cols
    → R.same (R.product (value_in_ring R (column_of R.zero q k) (R.product s (at i))) (value_in_ring R v (R.product s (at i)))) (value_in_ring R (column_of R.zero g k) (R.product s (at i)))

-- where the cells are 2^lg times the values on the coset of the columns of some g, and the divisors are the values of some v with no zero
-- there, all in bit-reversed order, the columns of q are the quotients
abbrev pub AreQuotientsOfValues : {A : Type 0} → RingOf A → A → A → ℕ → ℕ → List A → List A → List A → Type 0
AreQuotientsOfValues {A} R w s lg c cells divisors q =
    (g v : List A) → length v ≡ 2 ^ lg → AreReversedMultiples R w s lg c g cells → AreReversedMultiples R w s lg 1 v divisors
    → IsNonzeroOnCoset R w s (2 ^ lg) v → AreQuotientsOnCoset R w s (matrix_of (2 ^ lg) c g) v (matrix_of (2 ^ lg) c q)

-- there are products, whose values at the first n powers of w are the cells times the values of v, and a divisor, which has the values of v
-- there: where the divisor has no zero on the coset by s, the columns of q are the quotients
pub record AreDivided {A : Type 0} (R : RingOf A) (w s : A) (n c : ℕ) (cells v q : List A) : Type 0 where
  pub product : List A
  pub divisor : List A
  pub divisor_size : length divisor ≡ n
  pub products : AreProductsOnDomain R w (matrix_of n c cells) v (matrix_of n c product)
  pub same_values : HaveSameValuesOnDomain R w n v divisor
  pub quotients : IsNonzeroOnCoset R w s n divisor → AreQuotientsOnCoset R w s (matrix_of n c product) divisor (matrix_of n c q)

-- the work of a recovery of 2^lg rows of c cells that succeeds: with no row or all rows filled, the c 2^lg lg / 2 butterflies of one
-- transform; with some missing, at least 2^lg lg (3 c + 3) / 2, for three transforms of all columns and of one more, and with lg at most 8
-- just these, and v (v + 1) / 2 root products for v missing rows
pub record IsExactWork {A : Type 0} (lg : ℕ) (e : EvaluationsOf A) (v w : WorkOf) : Type 0 where
  pub none_or_all : (count_true e.filled ≡ 0) ⊎ (count_false e.filled ≡ 0)
      → (2 * w.butterflies ≡ 2 * v.butterflies + e.matrix.cols * e.matrix.rows * lg) × (w.root_products ≡ v.root_products)
  pub some : 0 < count_true e.filled → 0 < count_false e.filled → lg ≤ 8
      → (2 * w.butterflies ≡ 2 * v.butterflies + e.matrix.rows * lg * (3 * e.matrix.cols + 3)) × (2 * w.root_products ≡ 2 * v.root_products + count_false e.filled * (count_false e.filled + 1))
  pub no_fewer : 0 < count_true e.filled → 0 < count_false e.filled → 2 * v.butterflies + e.matrix.rows * lg * (3 * e.matrix.cols + 3) ≤ 2 * w.butterflies

-- the work of a recovery of 2^lg rows that is refused: with no row or all rows filled, at most the butterflies of one transform; with some
-- missing and lg at most 8, at most the work of one that succeeds, and no butterfly before all root products
pub record IsRefusedWork {A : Type 0} (lg : ℕ) (e : EvaluationsOf A) (v w : WorkOf) : Type 0 where
  pub none_or_all : (count_true e.filled ≡ 0) ⊎ (count_false e.filled ≡ 0) → AddsAtMost (e.matrix.cols * e.matrix.rows * lg) v w
  pub some : 0 < count_true e.filled → 0 < count_false e.filled → lg ≤ 8
      → AddsInOrder (e.matrix.rows * lg * (3 * e.matrix.cols + 3)) (count_false e.filled * (count_false e.filled + 1)) v w

-- the work of a recovery of 2^lg rows that is refused though calls on elements never are: with some rows missing and lg at most 8,
-- no butterfly, or all root products and two transforms of all columns and three of one more
abbrev pub IsLateWork : {A : Type 0} → ℕ → EvaluationsOf A → WorkOf → WorkOf → Type 0
IsLateWork lg e v w = 0 < count_true e.filled → 0 < count_false e.filled → lg ≤ 8
    → AddsNoneOrAll (e.matrix.rows * lg * (2 * e.matrix.cols + 3)) (count_false e.filled * (count_false e.filled + 1)) v w

-- from v to w the work of a recovery that succeeds is added, after which it is `after`, and maybe more
pub record AddsRecovery {A : Type 0} (lg : ℕ) (e : EvaluationsOf A) (v w : WorkOf) : Type 0 where
  pub after : WorkOf
  pub first : IsExactWork lg e v after
  pub butterflies : after.butterflies ≤ w.butterflies
  pub root_products : after.root_products ≤ w.root_products

-- m has the size of e and the polynomials that are recovered from it
pub record IsRecoveredFrom {A : Type 0} (R : RingOf A) (root : ℕ → A) (e : EvaluationsOf A) (m : MatrixOf A) : Type 0 where
  pub size : IsOfSize m e.matrix.rows e.matrix.cols
  pub fits : AreRecovered R root e m

-- a recovery of 2^lg rows that succeeds: m has the recovered polynomials, and from v to w its work is added
pub record IsRecovery {A : Type 0} (R : RingOf A) (root : ℕ → A) (lg : ℕ) (e : EvaluationsOf A) (m : MatrixOf A) (v w : WorkOf) : Type 0 where
  pub fits : AreRecovered R root e m
  pub exact : IsExactWork lg e v w

-- a recovery of 2^lg rows that is refused, with its work from v to w; where calls on elements never are, and no row or all rows are filled,
-- it has not begun
pub record IsRefusal {A : Type 0} (never : Bool) (lg : ℕ) (e : EvaluationsOf A) (v w : WorkOf) : Type 0 where
  pub refused : IsRefusedWork lg e v w
  pub unbegun : IsTrue never → (count_true e.filled ≡ 0) ⊎ (count_false e.filled ≡ 0) → w ≡ v
  pub late : IsTrue never → IsLateWork lg e v w
