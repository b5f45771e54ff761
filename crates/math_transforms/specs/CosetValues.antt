-- Values of polynomials on a domain, moved to its coset.
use Rattle.std.specs.Prelude.{◌≡◌, ℕ, ◌+◌, ◌*◌, ◌<◌, ◌^◌, List, length, slice_index_or}
use Rattle.math_theory.specs.BitReversal.{bit_reversed}
use Rattle.math_theory.specs.Powers.{power}
use Rattle.math_base.specs.Members.{RingOf}
use Rattle.math_base.specs.Polynomials.{value_in_ring}
use Rattle.math_transforms.specs.DomainValues.{matrix_of}
use Rattle.math_transforms.specs.Matrices.{MatrixOf, column_of, cell_of}

-- the cell of v in row j and column k, times 2^lg, is same as the value, at power j of w, of the polynomial whose coefficients are column k of m
abbrev pub AreMultiplesAtPowers : {A : Type 0} → RingOf A → A → ℕ → MatrixOf A → MatrixOf A → Type 0
AreMultiplesAtPowers R w lg m v =
    (j k : ℕ) → j < m.rows → k < m.cols
    → R.same (R.product (cell_of R.zero v j k) (power R.one R.product (R.sum R.one R.one) lg)) (value_in_ring R (column_of R.zero m k) (power R.one R.product w j))

-- row t of 2^lg rows of c cells has the values, at power i of w, of the polynomials whose coefficients are the columns of p, where i has
-- the lg bits of t in the opposite order
abbrev pub AreReversedValues : {A : Type 0} → RingOf A → A → ℕ → ℕ → List A → List A → Type 0
AreReversedValues R w lg c p cells =
    (t k : ℕ) → t < 2 ^ lg → k < c
    → R.same (slice_index_or cells (t * c + k) R.zero) (value_in_ring R (column_of R.zero (matrix_of (2 ^ lg) c p) k) (power R.one R.product w (bit_reversed lg t)))

-- row t of 2^lg rows of c cells has 2^lg times the values, at s times power i of w, of the polynomials whose coefficients are the columns
-- of p, where i has the lg bits of t in the opposite order
abbrev pub AreReversedMultiples : {A : Type 0} → RingOf A → A → A → ℕ → ℕ → List A → List A → Type 0
AreReversedMultiples R w s lg c p cells =
    (t k : ℕ) → t < 2 ^ lg → k < c
    → R.same (slice_index_or cells (t * c + k) R.zero)
    (R.product (value_in_ring R (column_of R.zero (matrix_of (2 ^ lg) c p) k) (R.product s (power R.one R.product w (bit_reversed lg t)))) (power R.one R.product (R.sum R.one R.one) lg))

-- some polynomials of 2^lg coefficients, one for each of the c columns, have the old cells as their values at the first 2^lg powers of w,
-- and the new cells are 2^lg times their values at s times these powers; both lists of rows are in bit-reversed order
pub record AreMovedValues {A : Type 0} (R : RingOf A) (w s : A) (lg c : ℕ) (old new : List A) : Type 0 where
  pub polynomials : List A
  pub count : length polynomials ≡ 2 ^ lg * c
  pub values : AreReversedValues R w lg c polynomials old
  pub multiples : AreReversedMultiples R w s lg c polynomials new
