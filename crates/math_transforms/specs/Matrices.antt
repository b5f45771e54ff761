-- Matrices, as contracts see them.
use Rattle.std.specs.Prelude.{◌≡◌, ℕ, zero, suc, ◌*◌, ◌+◌, ◌<◌, ◌≤◌, List, [], ◌∷◌, ◌++◌, Option, length, take, drop, map, get_or}
use Rattle.std.specs.List.{All, AllZip}
use Rattle.std.specs.Iterator.{DrainsIf}
use Rattle.math_theory.specs.Sums.{weighted_sum}

-- a number of rows, a number of columns, and the cells row by row
pub record MatrixOf (A : Type 0) : Type 0 where
  pub rows : ℕ
  pub cols : ℕ
  pub cells : List A

-- the first n pieces of a list, each of c items
abbrev pub pieces : {A : Type 0} → ℕ → ℕ → List A → List (List A)
pieces zero c xs = []
pieces (suc n) c xs = take c xs ∷ pieces n c (drop c xs)

-- the list of the rows
abbrev pub rows_of : {A : Type 0} → MatrixOf A → List (List A)
rows_of m = pieces m.rows m.cols m.cells

-- row i
abbrev pub row_of : {A : Type 0} → MatrixOf A → ℕ → List A
row_of m i = take m.cols (drop (i * m.cols) m.cells)

-- column k, the list of the k-th cells of the rows; d stands for a cell that is not there
abbrev pub column_of : {A : Type 0} → A → MatrixOf A → ℕ → List A
column_of d m k = map (λ row. get_or row k d) (rows_of m)

-- the cell in row i and column k; d stands for a cell that is not there
abbrev pub cell_of : {A : Type 0} → A → MatrixOf A → ℕ → ℕ → A
cell_of d m i k = get_or m.cells (i * m.cols + k) d

-- there are r rows and c columns, and as many cells as those have
abbrev pub IsOfSize : {A : Type 0} → MatrixOf A → ℕ → ℕ → Type 0
IsOfSize m r c = (m.rows ≡ r) × (m.cols ≡ c) × (length m.cells ≡ r * c)

-- both have the same numbers of rows and of columns, and the same cells
abbrev pub AreSameMatrices : {A : Type 0} → (A → A → Type 0) → MatrixOf A → MatrixOf A → Type 0
AreSameMatrices same m n = (m.rows ≡ n.rows) × (m.cols ≡ n.cols) × AllZip same m.cells n.cells

-- whatever `into_iter` makes of x may be asked for items
abbrev pub IsIterable : {U S : Type 0} → (U → S → Type 0) → (S → Type 0) → U → Type 0
IsIterable {S = S} becomes can_next x = (s : S) → becomes x s → can_next s

-- an iterator whose steps are `steps` gives these items from the state s on: n of them, or fewer and then its end
abbrev pub GivesAtMost : {S A : Type 0} → (S → Option A → S → Type 0) → ℕ → S → List A → Type 0
GivesAtMost steps n s items = (length items ≤ n) × DrainsIf steps (length items < n) s items

-- the cells are the items, and after them zeros
abbrev pub AreFilledUp : {A : Type 0} → (A → A → Type 0) → A → List A → List A → Type 0
AreFilledUp {A} same zero_of items cells = (rest : List A) × (cells ≡ items ++ rest) × All (λ cell. same cell zero_of) rest

-- each cell of m is the sum of the products of a row of a and a column of b, in their order
abbrev pub IsProductOf : {A : Type 0} → (A → A → Type 0) → A → (A → A → A) → (A → A → A) → MatrixOf A → MatrixOf A → MatrixOf A → Type 0
IsProductOf same zero_of sum product a b m =
    (i k : ℕ) → i < a.rows → k < b.cols → same (cell_of zero_of m i k) (weighted_sum zero_of sum product (row_of a i) (column_of zero_of b k))
