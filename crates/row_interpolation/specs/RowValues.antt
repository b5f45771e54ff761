-- Rows whose columns are the values of polynomials, and what rows of some indices give for others.
-- Elements are a function of a row and a column. A row has an index, which stands for this power of a root of unity.
use Rattle.std.specs.Prelude.{ℕ, ◌+◌, ◌*◌, ◌<◌, ◌≤◌, ◌^◌, List, length, slice_index, slice_index_or}
use Rattle.std.specs.Int.{IsNextPowerOfTwo}
use Rattle.math_theory.specs.Powers.{power}
use Rattle.math_theory.specs.Values.{value}
use Rattle.math_fields.specs.declared.goldilocks.F.{F}
use Rattle.math_fields.specs.Elements.{residue, same, sum, product, root_of}
use Rattle.math_restoring.specs.Restored.{item}

-- columns `from` to `from + cols`: a strip holds them, and their places are counted
abbrev pub AreStripColumns : ℕ → ℕ → Type 0
AreStripColumns from cols = (cols ≤ 64) × (from + cols ≤ 2 ^ 61)

-- the value of a polynomial at power i of the root of order 2^lg
abbrev pub value_at_index : ℕ → List F → ℕ → F
value_at_index lg coefficients i = value (residue 0) sum product (residue 1) (power (residue 1) product (root_of lg) i) coefficients

-- p has at most as many coefficients as there are indices, and at index number t has value t
pub record IsThrough (lg : ℕ) (indices : List ℕ) (given : ℕ → F) (p : List F) : Type 0 where
  pub few : length p ≤ length indices
  pub values : (t : ℕ) → t < length indices → same (given t) (value_at_index lg p (slice_index_or indices t 0))

-- x is the value at the index of each polynomial, of no more coefficients than there are indices, that has these values at the indices
abbrev pub IsValueThrough : ℕ → List ℕ → (ℕ → F) → ℕ → F → Type 0
IsValueThrough lg indices values index x = (p : List F) → IsThrough lg indices values p → same x (value_at_index lg p index)

-- item j * cols + c of the list is, at the index of target number j, the value of the polynomial through column from + c of the rows in hand
abbrev pub AreMade : (ℕ → ℕ → F) → ℕ → List ℕ → List ℕ → ℕ → ℕ → List F → Type 0
AreMade element total indices targets from cols out =
    (lg : ℕ) → IsNextPowerOfTwo total (2 ^ lg) → (j c : ℕ) → j < length targets → c < cols
    → IsValueThrough lg indices (λ t. element t (from + c)) (slice_index targets j) (item out (j * cols + c))
