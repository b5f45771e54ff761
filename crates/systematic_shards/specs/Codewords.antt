-- Codewords: rows of one width whose columns are the values, at the first points of a domain, of polynomials of few coefficients.
-- Rows are given by their cells: `cell i k` is the cell of row i in column k.
use Rattle.std.specs.Prelude.{ℕ, ◌<◌, ◌≤◌, ◌^◌, List, length, slice_index_or, All}
use Rattle.std.specs.Int.{IsNextPowerOfTwo}
use Rattle.math_fields.specs.declared.goldilocks.F.{F}
use Rattle.math_fields.specs.Elements.{same}
use Rattle.math_restoring.specs.Restored.{AreDistinct}
use Rattle.row_interpolation.specs.RowValues.{value_at_index}

-- p has at most `min` coefficients, and its value at power i of the root of order 2^lg is cell i, for each i below `total`
pub record IsPolynomialOf (lg min total : ℕ) (cell : ℕ → F) (p : List F) : Type 0 where
  pub few : length p ≤ min
  pub values : (i : ℕ) → i < total → same (cell i) (value_at_index lg p i)

-- in each column the cells of rows 0 to `total` - 1 are the values of a polynomial of at most `min` coefficients; the domain is the least of `total` points
abbrev pub IsCodeword : ℕ → ℕ → ℕ → (ℕ → ℕ → F) → Type 0
IsCodeword min total width cell = (lg k : ℕ) → IsNextPowerOfTwo total (2 ^ lg) → k < width → (p : List F) × IsPolynomialOf lg min total (λ i. cell i k) p

-- rows of these indices have the same cells in both
abbrev pub AgreeAt : List ℕ → ℕ → (ℕ → ℕ → F) → (ℕ → ℕ → F) → Type 0
AgreeAt indices width a b = (t k : ℕ) → t < length indices → k < width → same (a (slice_index_or indices t 0) k) (b (slice_index_or indices t 0) k)

-- all of the first `total` rows have the same cells in both
abbrev pub AreSameRows : ℕ → ℕ → (ℕ → ℕ → F) → (ℕ → ℕ → F) → Type 0
AreSameRows total width a b = (i k : ℕ) → i < total → k < width → same (a i k) (b i k)

-- the indices are distinct, and below `total`
abbrev pub AreIndices : ℕ → List ℕ → Type 0
AreIndices total indices = AreDistinct indices × All (λ i. i < total) indices

-- codewords that agree in `min` rows or more are the same
abbrev pub HaveOneCodeword : Type 0
HaveOneCodeword =
    (min total width : ℕ) (indices : List ℕ) (a b : ℕ → ℕ → F) → total < 2 ^ 32 → AreIndices total indices → min ≤ length indices
    → IsCodeword min total width a → IsCodeword min total width b → AgreeAt indices width a b → AreSameRows total width a b

-- through any rows at no more than `min` distinct indices goes a codeword: row t of the cells is the row of index number t
abbrev pub HaveCodeword : Type 0
HaveCodeword =
    (min total width : ℕ) (indices : List ℕ) (cells : ℕ → ℕ → F) → 1 ≤ total → total < 2 ^ 32 → AreIndices total indices → length indices ≤ min
    → (a : ℕ → ℕ → F) × IsCodeword min total width a × ((t k : ℕ) → t < length indices → k < width → same (a (slice_index_or indices t 0) k) (cells t k))
