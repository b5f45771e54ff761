-- What a matrix is once a `&mut` into it has ended.
use Rattle.std.specs.Prelude.{ℕ, ◌*◌, ◌+◌, List, ◌++◌, take, drop, slice_set, length}
use Rattle.std.specs.Borrow.{Lends, Fml, RattleType, MutBor, Array}
use Rattle.math_transforms.specs.Matrices.{MatrixOf}
use Rattle.math_ntt.specs.contracts.ntt.matrix.Matrix.{the_row}

-- the matrix with a at place k of its cells
abbrev pub with_cell : {A : Type 0} → MatrixOf A → ℕ → A → MatrixOf A
with_cell m k a = record m { cells = slice_set m.cells k a }

-- the matrix with these cells from the first of row i on, cut at the number of its cells
abbrev pub with_row : {A : Type 0} → MatrixOf A → ℕ → List A → MatrixOf A
with_row m i row =
    let put = take (i * m.cols) m.cells ++ (row ++ drop (length row) (drop (i * m.cols) m.cells)) in
    record m { cells = take (length m.cells) (put ++ drop (length put) m.cells) }

module _ (F : RattleType) (s : MutBor (MatrixOf F.Denot)) where
  -- what is written through the loan stands in the cell in row i.0 and column i.1
  abbrev pub lends_cell : ℕ × ℕ → MutBor F.Denot → Fml
  lends_cell i r = Lends (the_row F) F s r (with_cell s.now (i.0 * s.now.cols + i.1))

  -- what is written through the loan stands in row i
  abbrev pub lends_row : ℕ → MutBor (List F.Denot) → Fml
  lends_row i r = Lends (the_row F) (Array F 0) s r (with_row s.now i)
