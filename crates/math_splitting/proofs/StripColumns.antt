-- Strips of columns of the rows that data fill: how they are filled, and the values of their columns.
use Rattle.std.proofs.Common.{◌≡◌, ◌∙◌, inl, inr, ℕ, ◌+◌, ◌-◌, ◌*◌, ◌<◌, ◌≤◌, ◌^◌, List, [], ◌∷◌, ◌++◌, length, take, drop, get_or, replicate, zero, suc, refl, sym, ap, ap₂, arith, length-append, append-nil}
use Rattle.std.proofs.Math.Seq.{take-append_seam}
use Rattle.std.proofs.lemmas.Bool.{cases_lt}
use Rattle.std.proofs.lemmas.List.{drop-drop, drop_all, get_or_past, get_or-take, length-replicate, length-take-le}
use Rattle.std.proofs.lemmas.Nat.{mul-add-lt, mul-le}
use Rattle.math_fields.specs.declared.goldilocks.F.{F}
use Rattle.math_fields.specs.Elements.{number, root_of, same, goldilocks}
use Rattle.math_fields.proofs.ElementNumbers.{same_number}
use Rattle.math_transforms.specs.DomainValues.{AreReversedValuesAtPowers, matrix_of}
use Rattle.math_transforms.specs.Matrices.{column_of}
use Rattle.math_transforms.proofs.ColumnHalves.{column-halves}
use Rattle.math_transforms.proofs.MatrixRows.{cell-of_column}
use Rattle.math_transforms.proofs.WrittenRows.{row-done}
use Rattle.math_splitting.specs.Shards.{elements_for, rows_for, width_for}
use Rattle.math_splitting.specs.Strips.{ArePacked, ArePlaced, HasStripValues, IsStripOf, packed_at}
use Rattle.math_splitting.proofs.SameCells.{nought}
use Rattle.math_values.proofs.ElementValues.{same_values}
use Rattle.math_splitting.proofs.LaidOutData.{rows_are_whole}

-- the first rows of c cells are those of data from column `from` on
abbrev pub HoldRows : List ℕ → ℕ → ℕ → ℕ → ℕ → List F → Type 0
HoldRows words width from c n cells = (r k : ℕ) → r < n → k < c → same (get_or cells (r * c + k) nought) (packed_at words (r * width + from + k))

-- with one row more, written over the cells
pub row-written : (words : List ℕ) (width from c i n : ℕ) (cells row : List F) → n ≡ c → i * c + c ≤ length cells → length row ≡ n → HoldRows words width from c i cells
    → ArePacked words (i * width + from) row → HoldRows words width from c (i + 1) (take (i * c) cells ++ (row ++ drop n (drop (i * c) cells)))
row-written words width from c i n cells row e within long hold h =
    row-done nought (λ j l x. same x (packed_at words (j * width + from + l))) cells cells row i c n e within long hold (λ k b. h k (omega (arith, b, long, e)))

zeros-at : (n p : ℕ) → get_or (replicate n nought) p nought ≡ nought
zeros-at zero p = refl
zeros-at (suc n) zero = refl
zeros-at (suc n) (suc p) = zeros-at n p

-- behind items stand zeros, as past the end of a list
pub zeros-behind : (xs : List F) (n p : ℕ) → get_or (xs ++ replicate n nought) p nought ≡ get_or xs p nought
zeros-behind [] n p = zeros-at n p
zeros-behind (x ∷ xs) n zero = refl
zeros-behind (x ∷ xs) n (suc p) = zeros-behind xs n p

-- a cell of the rows of data is an element that they pack to, also where it is past the last one
cell_of_rows : (words : List ℕ) (min r k : ℕ) → 1 ≤ min → k < width_for min words
    → get_or (column_of nought (rows_for min words) k) r nought ≡ packed_at words (r * width_for min words + k)
cell_of_rows words min r k some b =
    cell-of_column nought (rows_for min words) k r b (rows_are_whole min words some)
    ∙ zeros-behind (elements_for words) (min * width_for min words - length (elements_for words)) (r * width_for min words + k)

-- past the last row there is no element
packed_past : (words : List ℕ) (min r k : ℕ) → 1 ≤ min → min ≤ r → packed_at words (r * width_for min words + k) ≡ nought
packed_past words min r k some past = grind (arith, rows_are_whole, mul-le, zeros-behind, get_or_past)

-- the rows of data and zeros behind them are a strip
pub strip_filled : (words : List ℕ) (min n from c m : ℕ) (rows cells : List F) (z : F) → 1 ≤ min → min ≤ n → from + c ≤ width_for min words
    → length rows ≡ min * c → HoldRows words (width_for min words) from c min rows → m ≡ n * c - min * c → same z nought → cells ≡ rows ++ replicate m z
    → IsStripOf words min n from c cells
strip_filled words min n from c m rows cells z some tall within count hold left zeros made =
    let width = width_for min words in
    let up : min * c ≤ n * c = mul-le min c n c tall (omega arith) in
    let is : cells ≡ rows ++ replicate m nought = made ∙ ap (λ x. rows ++ replicate m x) (same_number z nought zeros) in
    let long : length cells ≡ n * c = ap length is ∙ length-append rows (replicate m nought) ∙ ap₂ (λ x y. x + y) count (length-replicate m nought ∙ left) ∙ (omega (arith, up)) in
    record {
      count = long;
      columns = λ k b j.
          let cell : get_or (column_of nought (matrix_of n c cells) k) j nought ≡ get_or rows (j * c + k) nought =
          cell-of_column nought (matrix_of n c cells) k j b long ∙ ap (λ xs. get_or xs (j * c + k) nought) is ∙ zeros-behind rows m (j * c + k) in
          let of_data : get_or (column_of nought (rows_for min words) (from + k)) j nought ≡ packed_at words (j * width + (from + k)) =
          cell_of_rows words min j (from + k) some (omega (arith, b, within)) in
          let place : j * width + from + k ≡ j * width + (from + k) = omega arith in
          elim (cases_lt j min) [
            | inl inside ↦ ap number cell ∙ hold j k inside b ∙ ap (λ p. number (packed_at words p)) place ∙ sym (ap number of_data)
            | inr past ↦
                let beyond : min * c ≤ j * c = mul-le min c j c past (omega arith) in
                let none : get_or rows (j * c + k) nought ≡ nought = get_or_past rows (j * c + k) nought (omega (arith, count, beyond)) in
                ap number (cell ∙ none) ∙ sym (ap number (of_data ∙ packed_past words min j (from + k) some past))
          ];
    }

-- rows of data in the first rows, and zeros over the others
pub strip_written : (words : List ℕ) (min n from c m k : ℕ) (cells zeros : List F) (z : F) → 1 ≤ min → min ≤ n → from + c ≤ width_for min words → length cells ≡ n * c
    → HoldRows words (width_for min words) from c min cells → m ≡ length cells - min * c → k ≡ m → same z nought → zeros ≡ replicate k z
    → IsStripOf words min n from c (take (min * c) cells ++ (zeros ++ drop m (drop (min * c) cells)))
strip_written words min n from c m k cells zeros z some tall within count hold left all is made =
    let up : min * c ≤ n * c = mul-le min c n c tall (omega arith) in
    let rows = take (min * c) cells in
    let none : drop m (drop (min * c) cells) ≡ [] = drop-drop m (min * c) cells ∙ drop_all (min * c + m) cells (omega (arith, left)) in
    let whole : take (min * c) cells ++ (zeros ++ drop m (drop (min * c) cells)) ≡ rows ++ replicate m z =
    ap (λ xs. rows ++ (zeros ++ xs)) none ∙ ap (λ xs. rows ++ xs) (append-nil zeros ∙ made ∙ ap (λ i. replicate i z) all) in
    strip_filled words min n from c m rows (take (min * c) cells ++ (zeros ++ drop m (drop (min * c) cells))) z some tall within
    (length-take-le (min * c) cells (omega (arith, count, up)))
    (λ r j a b. ap number (get_or-take (min * c) cells (r * c + j) nought (let l : r * c + j < c * min = mul-add-lt r c j min a b in omega (arith, l))) ∙ hold r j a b)
    (omega (arith, left, count)) is whole

-- the columns of the first rows
first_columns : (n c k : ℕ) (rows rest : List F) → length rows ≡ n * c → column_of nought (matrix_of n c (rows ++ rest)) k ≡ column_of nought (matrix_of n c rows) k
first_columns n c k rows rest whole =
    let all : n + 0 ≡ n = omega arith in
    let front : take (n * c) (rows ++ rest) ≡ rows = ap (λ i. take i (rows ++ rest)) (sym whole) ∙ take-append_seam rows rest in
    ap (λ i. column_of nought (matrix_of i c (rows ++ rest)) k) (sym all) ∙ column-halves nought n 0 c k (rows ++ rest)
    ∙ append-nil (column_of nought (matrix_of n c (take (n * c) (rows ++ rest))) k) ∙ ap (λ xs. column_of nought (matrix_of n c xs) k) front

-- the values of the columns of a strip, in whose first rows the coefficients stood, are those of the columns of the rows of data
pub strip_valued : (words : List ℕ) (min lg part from c : ℕ) (strip rest mid new : List F) → IsStripOf words min (2 ^ part) from c strip → length new ≡ 2 ^ lg * c
    → AreReversedValuesAtPowers goldilocks (root_of lg) lg (matrix_of (2 ^ part) c (strip ++ rest)) (matrix_of (2 ^ lg) c mid) → ArePlaced lg c mid new → HasStripValues words min lg from c new
strip_valued words min lg part from c strip rest mid new h count values placed = grind (arith, first_columns, same_values)
