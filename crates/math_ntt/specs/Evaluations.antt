-- Values at the points of a domain, a row a point, some of which are filled.
use Rattle.std.specs.Prelude.{◌≡◌, ℕ, ◌+◌, ◌*◌, ◌<◌, ◌≤◌, List, Bool, ◌++◌, length, take, drop, slice_set, true}
use Rattle.std.specs.List.{AllZip}
use Rattle.math_transforms.specs.Matrices.{MatrixOf, AreSameMatrices}

-- lg is at most the greatest one and below 64
pub record IsDomainLg (greatest lg : ℕ) : Type 0 where
  pub domain : lg ≤ greatest
  pub small : lg < 64

-- a matrix, and for each of its rows whether it is filled
pub record EvaluationsOf (A : Type 0) : Type 0 where
  pub matrix : MatrixOf A
  pub filled : List Bool

-- the cells of m, and for each of its rows whether it is filled
abbrev pub evaluations_of : {A : Type 0} → MatrixOf A → List Bool → EvaluationsOf A
evaluations_of m filled = record { matrix = m; filled = filled }

-- the matrix with these items in place of the first cells of row i
abbrev with_first_cells : {A : Type 0} → MatrixOf A → ℕ → List A → MatrixOf A
with_first_cells m i items = record m { cells = take (i * m.cols) m.cells ++ (items ++ drop (i * m.cols + length items) m.cells) }

-- w is v with copies of the items in place of the first cells of row i, which counts as filled
abbrev pub IsFilledAt : {A : Type 0} → (A → A → Type 0) → EvaluationsOf A → ℕ → List A → EvaluationsOf A → Type 0
IsFilledAt {A} same v i items w =
    (copies : List A) × AllZip same copies items × (w.matrix ≡ with_first_cells v.matrix i copies) × (w.filled ≡ slice_set v.filled i true)

-- both have the same matrix, and the same rows are filled
abbrev pub AreSameEvaluations : {A : Type 0} → (A → A → Type 0) → EvaluationsOf A → EvaluationsOf A → Type 0
AreSameEvaluations same v w = AreSameMatrices same v.matrix w.matrix × (v.filled ≡ w.filled)
