-- Values of polynomials at the powers of a root, in the columns of a matrix.
use Rattle.std.specs.Prelude.{◌≡◌, ℕ, ◌<◌, ◌≤◌, ◌^◌, List, length, slice_index_or}
use Rattle.math_theory.specs.BitReversal.{bit_reversed}
use Rattle.math_theory.specs.Coefficients.{HaveSameCoefficients}
use Rattle.math_theory.specs.Powers.{power}
use Rattle.math_base.specs.Members.{RingOf}
use Rattle.math_base.specs.Polynomials.{value_in_ring}
use Rattle.math_transforms.specs.Matrices.{MatrixOf, column_of, cell_of}

-- the matrix of r rows and c columns that has these cells, row by row
abbrev pub matrix_of : {A : Type 0} → ℕ → ℕ → List A → MatrixOf A
matrix_of r c xs = record { rows = r; cols = c; cells = xs }

-- the cell of v in row j and column k is same as the value, at power j of w, of the polynomial whose coefficients are column k of m
abbrev pub AreValuesAtPowers : {A : Type 0} → RingOf A → A → MatrixOf A → MatrixOf A → Type 0
AreValuesAtPowers R w m v =
    (j k : ℕ) → j < m.rows → k < m.cols → R.same (cell_of R.zero v j k) (value_in_ring R (column_of R.zero m k) (power R.one R.product w j))

-- the cell of v in column k, and in the row whose number has the lg bits of j in the opposite order, is same as the value, at power j of w, of the polynomial
-- whose coefficients are column k of m: v has 2^lg rows, and m may have fewer
abbrev pub AreReversedValuesAtPowers : {A : Type 0} → RingOf A → A → ℕ → MatrixOf A → MatrixOf A → Type 0
AreReversedValuesAtPowers R w lg m v =
    (j k : ℕ) → j < 2 ^ lg → k < m.cols → R.same (cell_of R.zero v (bit_reversed lg j) k) (value_in_ring R (column_of R.zero m k) (power R.one R.product w j))

-- the matrix of one column that has these cells
abbrev pub one_column : {A : Type 0} → List A → MatrixOf A
one_column xs = matrix_of (length xs) 1 xs

-- where n is 2^lg, lg is at most the greatest one
abbrev pub HasDomain : ℕ → ℕ → Type 0
HasDomain greatest n = (lg : ℕ) → n ≡ 2 ^ lg → lg ≤ greatest

-- where m has 2^lg rows, v holds the values of its columns at the powers of root lg
abbrev pub AreValuesOnDomain : {A : Type 0} → RingOf A → (ℕ → A) → MatrixOf A → MatrixOf A → Type 0
AreValuesOnDomain R root m v = (lg : ℕ) → m.rows ≡ 2 ^ lg → AreValuesAtPowers R (root lg) m v

-- polynomials of 2^lg coefficients with the same values at the powers of root lg have the same coefficients
abbrev pub HasOnePolynomial : {A : Type 0} → RingOf A → (ℕ → A) → ℕ → Type 0
HasOnePolynomial {A} R root greatest =
    (lg : ℕ) (a b values : List A) → lg ≤ greatest → length a ≡ 2 ^ lg → length b ≡ 2 ^ lg
    → AreValuesOnDomain R root (one_column a) (one_column values) → AreValuesOnDomain R root (one_column b) (one_column values) → HaveSameCoefficients R.same R.zero a b

-- two lists of the values of one polynomial of 2^lg coefficients at the powers of root lg are same, place by place
abbrev pub HasOneValues : {A : Type 0} → RingOf A → (ℕ → A) → Type 0
HasOneValues {A} R root =
    (lg : ℕ) (a v w : List A) → length a ≡ 2 ^ lg → AreValuesOnDomain R root (one_column a) (one_column v) → AreValuesOnDomain R root (one_column a) (one_column w)
    → (j : ℕ) → j < 2 ^ lg → R.same (slice_index_or v j R.zero) (slice_index_or w j R.zero)
