-- The places of a matrix: rows, columns and cells name the same items, and a write changes its own cells alone.
use Rattle.std.proofs.Common.{◌≡◌, ◌∙◌, ◌⊎◌, inl, inr, ℕ, ◌+◌, ◌-◌, ◌*◌, ◌/◌, ◌<◌, ◌≤◌, List, ◌++◌, length, take, drop, get_or, ap, sym, refl, arith}
use Rattle.std.proofs.lemmas.Bool.{cases_lt}
use Rattle.std.proofs.lemmas.List.{get_or-drop, get_or-take, get_or_append_left, get_or-append_right, get_or-set_same, get_or-set_other, length-set, length-append, length-take-le, length-drop}
use Rattle.std.proofs.lemmas.List.Elements.{AllZip-get_or, length_all_zip}
use Rattle.std.proofs.lemmas.Nat.{mul-add-lt, div-mul-add}
use Rattle.math_transforms.specs.Matrices.{MatrixOf}
use Rattle.math_ntt.specs.MatrixPlaces.{IsFull, DiffersInRow, RowsAreListed, RowsAreFull, RowsHoldCells, ColumnsAreFull, ColumnsHoldCells, CellsAreWrittenAlone, RowsAreWrittenAlone, RowsAreFilledAlone}
use Rattle.math_transforms.proofs.MatrixRows.{piece-at, length-column, column-at}
use Rattle.math_transforms.proofs.WrittenCells.{row-within, cells-between}

-- a place below the number of cells
place-within : (i k r c : ℕ) → i < r → k < c → i * c + k < r * c
place-within i k r c h l = omega (arith, mul-add-lt i c k r h l)

-- two cells at one place are in one row and one column
same_place : (i j k l c : ℕ) → k < c → l < c → j * c + l ≡ i * c + k → (j ≡ i) × (l ≡ k)
same_place i j k l c h g e =
    let rows : j ≡ i = sym (div-mul-add j c l g) ∙ ap (λ n. n / c) e ∙ div-mul-add i c k h in
    let columns : l ≡ k = let f : j * c ≡ i * c = ap (λ n. n * c) rows in omega arith in
    (rows, columns)

-- a place in another row stands before row i, or from its end on
other_row : (i j l c n : ℕ) → n ≤ c → l < c → (j ≡ i → n ≤ l) → (j * c + l < i * c) ⊎ (i * c + n ≤ j * c + l)
other_row i j l c n small h apart = grind (arith, cases_lt, mul-add-lt, row-within)

-- what is not below n is n or more
beyond : (n l : ℕ) → (l < n → ⊥) → n ≤ l
beyond n l apart = elim (cases_lt l n) [ inl h ↦ absurd (apart h) | inr h ↦ h ]

module _ {A : Type 0} where
  -- items that stand in place of those from a place on
  abbrev between : ℕ → List A → List A → List A
  between from items cells = take from cells ++ (items ++ drop (from + length items) cells)

  module _ (from : ℕ) (items cells : List A) (within : from + length items ≤ length cells) where
    before : length (take from cells) ≡ from
    before = length-take-le from cells (omega (arith, within))

    length-between : length (between from items cells) ≡ length cells
    length-between =
        omega (
          arith,
          length-append (take from cells) (items ++ drop (from + length items) cells),
          length-append items
              (drop (from + length items) cells),
          before,
          length-drop (from + length items) cells,
          within,
        )

    between-written : (d : A) (k : ℕ) → k < length items → get_or (between from items cells) (from + k) d ≡ get_or items k d
    between-written d k h =
        let e : from + k - from ≡ k = omega arith in
        get_or-append_right (take from cells) _ from (from + k) d before (omega arith)
        ∙ ap (λ n. get_or (items ++ drop (from + length items) cells) n d) e
        ∙ get_or_append_left items _ d k h

    between-other : (d : A) (p : ℕ) → (p < from) ⊎ (from + length items ≤ p) → get_or (between from items cells) p d ≡ get_or cells p d
    between-other d p (inl h) =
        get_or_append_left (take from cells) _ d p (omega (arith, before, h)) ∙ get_or-take from cells p d h
    between-other d p (inr h) =
        let e : from + length items + (p - from - length items) ≡ p = omega (arith, h) in
        get_or-append_right (take from cells) _ from p d before (omega (arith, h))
        ∙ get_or-append_right items _ (length items) (p - from) d refl (omega (arith, h))
        ∙ get_or-drop (from + length items) cells (p - from - length items) d
        ∙ ap (λ n. get_or cells n d) e

  pub rows_are_listed : RowsAreListed A
  rows_are_listed m i d h = piece-at m.rows m.cols m.cells i d h

  pub rows_are_full : RowsAreFull A
  rows_are_full m i full h = grind (arith, row-within, length-take-le, length-drop)

  pub rows_hold_cells : RowsHoldCells A
  rows_hold_cells m i k d h = get_or-take m.cols (drop (i * m.cols) m.cells) k d h ∙ get_or-drop (i * m.cols) m.cells k d

  pub columns_are_full : ColumnsAreFull A
  columns_are_full m k d = length-column d m k

  pub columns_hold_cells : ColumnsHoldCells A
  columns_hold_cells m i k d e h l = column-at d m k i e h ∙ rows_hold_cells m i k d l

  pub cells_are_written_alone : CellsAreWrittenAlone A
  cells_are_written_alone m i k a d full h l =
      let c = m.cols in
      let place : i * c + k < length m.cells = omega (arith, place-within i k m.rows c h l, full) in (
        get_or-set_same m.cells (i * c + k) a d place,
        record {
          size = (refl, refl, length-set m.cells (i * c + k) a ∙ full);
          others = λ e j n g f apart. get_or-set_other m.cells (i * c + k) (j * c + n) a e (λ q. let s = same_place i j k n c l f q in apart s.0 s.1);
        },
      )

  -- items in place of the first n cells of a row
  first_cells_written : (m : MatrixOf A) (i n : ℕ) (items cells : List A) → cells ≡ between (i * m.cols) items m.cells → length items ≡ n → IsFull m → i < m.rows → n ≤ m.cols
      → ((k : ℕ) (d : A) → k < n → get_or cells (i * m.cols + k) d ≡ get_or items k d) × DiffersInRow m (record m { cells = cells }) i (λ l. l < n)
  first_cells_written m i n items cells is count full h few = grind (arith, row-within, between-written, length-between, between-other, other_row)

  pub rows_are_written_alone : RowsAreWrittenAlone A
  rows_are_written_alone m i row full h e =
      let all : i * m.cols + m.cols ≤ m.rows * m.cols = row-within i m.rows m.cols h in
      first_cells_written m i m.cols row _ (cells-between (length m.cells) (i * m.cols) m.cells row refl (omega arith)) e full h (omega arith)

  pub rows_are_filled_alone : (same : A → A → Type 0) → RowsAreFilledAlone A same
  rows_are_filled_alone same v w i items full h few filled =
      let copies = filled.0 in
      let count : length copies ≡ length items = length_all_zip same copies items filled.1 in
      let f = first_cells_written v.matrix i (length items) copies _ refl count full h few in
      rw filled.2 (λ k d l. rw (f.0 k d l) (AllZip-get_or same copies items k d d filled.1 (omega arith)), f.1)
