-- The rows and columns of a matrix, and the places of its cells.
use Rattle.std.proofs.Common.{◌≡◌, ◌∙◌, inl, inr, ℕ, zero, suc, ◌+◌, ◌*◌, ◌<◌, ◌≤◌, List, [], ◌++◌, length, take, drop, get_or, ap, refl, arith}
use Rattle.std.proofs.lemmas.Bool.{cases_lt}
use Rattle.std.proofs.lemmas.List.{get_or-map, length-map, get_or_append_left, get_or-append-add, get_or-take, get_or-drop, get_or_past, drop-drop}
use Rattle.std.proofs.lemmas.Nat.{mul-add-lt, mul-le}
use Rattle.math_transforms.specs.Matrices.{MatrixOf, pieces, rows_of, row_of, column_of, cell_of}

module _ {A : Type 0} where
  pub length-pieces : (n c : ℕ) (xs : List A) → length (pieces n c xs) ≡ n
  length-pieces zero c xs = refl
  length-pieces (suc n) c xs = ap suc (length-pieces n c (drop c xs))

  pub piece-at : (n c : ℕ) (xs : List A) (j : ℕ) (d : List A) → j < n → get_or (pieces n c xs) j d ≡ take c (drop (j * c) xs)
  piece-at zero c xs j d l = absurd (omega arith)
  piece-at (suc n) c xs zero d l = let e : 0 * c ≡ 0 = omega arith in rw e refl
  piece-at (suc n) c xs (suc j) d l =
      let e : c + j * c ≡ suc j * c = omega arith in
      piece-at n c (drop c xs) j d (omega arith) ∙ ap (take c) (drop-drop (j * c) c xs ∙ ap (λ p. drop p xs) e)

  pub length-column : (d : A) (m : MatrixOf A) (k : ℕ) → length (column_of d m k) ≡ m.rows
  length-column d m k = length-map (rows_of m) (λ row. get_or row k d) ∙ length-pieces m.rows m.cols m.cells

  -- the cells of a column are those of the rows
  pub column-at : (d : A) (m : MatrixOf A) (k j : ℕ) (e : A) → j < m.rows → get_or (column_of d m k) j e ≡ get_or (row_of m j) k d
  column-at d m k j e l =
      get_or-map (λ row. get_or row k d) (rows_of m) j [] e (rw (length-pieces m.rows m.cols m.cells) l)
      ∙ ap (λ row. get_or row k d) (piece-at m.rows m.cols m.cells j [] l)

  -- coefficient i of column k is the cell in row i, also past the last row, where there is none
  pub cell-of_column : (d : A) (m : MatrixOf A) (k i : ℕ) → k < m.cols → length m.cells ≡ m.rows * m.cols → get_or (column_of d m k) i d ≡ cell_of d m i k
  cell-of_column d m k i l e = grind (arith, cases_lt, column-at, get_or-take, get_or-drop, mul-le, get_or_past, length-column)

  -- what holds of each cell of the rows so far, and of a further row
  pub each-cell-next : (d : A) (P : ℕ → ℕ → A → Type 0) (c i : ℕ) (cells row : List A) → length cells ≡ i * c → length row ≡ c
      → ((j k : ℕ) → j < i → k < c → P j k (get_or cells (j * c + k) d)) → ((k : ℕ) → k < c → P i k (get_or row k d))
      → (j k : ℕ) → j < i + 1 → k < c → P j k (get_or (cells ++ row) (j * c + k) d)
  each-cell-next d P c i cells row e f h p j k l m =
      elim (cases_lt j i) [
        | inl n ↦ let b : j * c + k < length cells = rw e (omega (arith, mul-add-lt j c k i n m)) in rw (get_or_append_left cells row d (j * c + k) b) (h j k n m)
        | inr n ↦ let q : j ≡ i = omega arith in rw (q, ← e, get_or-append-add cells row k d) (p k m)
      ]
