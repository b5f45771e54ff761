-- Matrices whose columns are polynomials: row i holds coefficient i of each.
use Rattle.std.specs.Prelude.{ℕ, ◌*◌, ◌<◌, ◌≤◌, ◌^◌}
use Rattle.std.specs.Int.{IsNextPowerOfTwo}
use Rattle.math_theory.specs.Coefficients.{coefficient, HaveSameCoefficients}
use Rattle.math_transforms.specs.Matrices.{MatrixOf, column_of}

-- n coefficients are asked for, at least one, and as many as m has rows or more
abbrev pub AreEnough : {A : Type 0} → MatrixOf A → ℕ → Type 0
AreEnough m n = (0 < n) × (m.rows ≤ n)

-- the least power of two that is n or more fits a word, and so does its product with the number of columns
abbrev pub FitsPadded : {A : Type 0} → MatrixOf A → ℕ → Type 0
FitsPadded m n = (rows : ℕ) → IsNextPowerOfTwo n rows → (rows < 2 ^ 64) × (rows * m.cols < 2 ^ 64)

-- column k of v and column k of m are the same polynomial
abbrev pub HaveSamePolynomials : {A : Type 0} → (A → A → Type 0) → A → MatrixOf A → MatrixOf A → Type 0
HaveSamePolynomials same zero_of v m = (k : ℕ) → k < m.cols → HaveSameCoefficients same zero_of (column_of zero_of v k) (column_of zero_of m k)

-- in each column of m the coefficients from the n-th on are zero
abbrev pub HaveFewCoefficients : {A : Type 0} → (A → A → Type 0) → A → ℕ → MatrixOf A → Type 0
HaveFewCoefficients same zero_of n m = (k i : ℕ) → k < m.cols → n ≤ i → same (coefficient zero_of (column_of zero_of m k) i) zero_of
