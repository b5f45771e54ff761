-- Coefficients that are written column by column over the cells of rows.
use Rattle.std.proofs.Common.{◌≡◌, ◌∙◌, inl, inr, ℕ, ◌+◌, ◌-◌, ◌*◌, ◌<◌, ◌≤◌, ◌++◌, List, length, drop, take, get_or, sym, ap, subst, arith}
use Rattle.std.proofs.Math.ListN.{set}
use Rattle.std.proofs.lemmas.Bool.{cases_lt}
use Rattle.std.proofs.lemmas.List.{append-nil, drop_all, ext_get_or, take_all}
use Rattle.std.proofs.lemmas.Nat.{mul-le, row_fits}
use Rattle.math_theory.specs.Sums.{weighted_sum}
use Rattle.math_fields.specs.declared.goldilocks.F.{F}
use Rattle.math_fields.specs.Elements.{product, sum}
use Rattle.math_ntt.proofs.MatrixPlaces.{cells_are_written_alone, columns_are_full}
use Rattle.math_transforms.specs.DomainValues.{matrix_of}
use Rattle.math_transforms.specs.Matrices.{column_of, row_of}
use Rattle.math_transforms.proofs.MatrixRows.{cell-of_column}
use Rattle.math_transforms.proofs.WrittenRows.{put-after, put-before, put-within}
use Rattle.math_shards.specs.Weights.{AreColumnsPut, ArePutBefore, IsColumnPut, coefficient_of, weighed_at}
use Rattle.math_splitting.proofs.SameCells.{nought}

-- the column of these cells
abbrev pub column_in : ℕ → ℕ → List F → ℕ → List F
column_in count width cells k = column_of nought (matrix_of count width cells) k

-- it has an item for each row
column-count : (count width k : ℕ) (cells room : List F) → room ≡ column_in count width cells k → length room ≡ count
column-count count width k cells room is = ap length is ∙ columns_are_full (matrix_of count width cells) k nought

-- one cell more of the column
pub column-more : (rows width column r : ℕ) (value : ℕ → F) (start cells : List F) (v : F) → length cells ≡ rows * width → r < rows → column < width → v ≡ value r
    → IsColumnPut rows width column value start r cells → IsColumnPut rows width column value start (r + 1) (set cells (r * width + column) v)
column-more rows width column r value start cells v size l m e h =
    let w = cells_are_written_alone (matrix_of rows width cells) r column v nought size l m in
    record {
      done = λ i b. elim (cases_lt i r) as (λ _. get_or (set cells (r * width + column) v) (i * width + column) nought ≡ value i) [
        | inl before ↦ w.1.others nought i column (omega (arith, before, l)) m (λ same _. omega (arith, same, before)) ∙ h.done i before
        | inr after ↦
            let same : i ≡ r = omega (arith, after, b) in
            ap (λ j. get_or (set cells (r * width + column) v) (j * width + column) nought) same ∙ w.0 ∙ e ∙ ap value (sym same)
      ];
      others = λ i k a b apart. w.1.others nought i k a b (λ _ same. apart same) ∙ h.others i k a b apart;
    }

-- no column yet
pub columns-none : (weights : List F) (count width : ℕ) (start : List F) → ArePutBefore weights count width start 0 start
columns-none weights count width start = grind arith

-- a further column is that of the start
pub column-kept : (weights : List F) (count width column k : ℕ) (start cells : List F) → length start ≡ count * width → length cells ≡ count * width → column ≤ k → k < width
    → ArePutBefore weights count width start column cells → column_in count width cells k ≡ column_in count width start k
column-kept weights count width column k start cells size other past l h =
    let m = matrix_of count width cells in
    let n = matrix_of count width start in
    ext_get_or nought (column_of nought m k) (column_of nought n k) (columns_are_full m k nought ∙ sym (columns_are_full n k nought))
    (λ r b. let inside : r < count = omega (arith, b, columns_are_full m k nought) in
    cell-of_column nought m k r l other ∙ h.others r k inside past l ∙ sym (cell-of_column nought n k r l size))

-- one column more
pub columns-more : (weights : List F) (count width column : ℕ) (start old new room : List F) → length start ≡ count * width → length old ≡ count * width
    → room ≡ column_in count width old column → column < width
    → IsColumnPut (length room) width column (weighed_at weights room) old (length room) new → ArePutBefore weights count width start column old
    → ArePutBefore weights count width start (column + 1) new
columns-more weights count width column start old new room size other is l put h = grind (arith, column-count, column-kept, cases_lt)

-- a strip of columns more
pub strips-more : (weights : List F) (count width column n : ℕ) (start old new : List F) → length start ≡ count * width → length old ≡ count * width → column + n ≤ width
    → AreColumnsPut weights count width column n old new → ArePutBefore weights count width start column old → ArePutBefore weights count width start (column + n) new
strips-more weights count width column n start old new size other fits put h = record {
  done = λ r k a b. elim (cases_lt k column) as (λ _. get_or new (r * width + k) nought ≡ coefficient_of weights (matrix_of count width start) r k) [
    | inl before ↦ put.before r k a before ∙ h.done r k a before
    | inr after ↦
        let i : ℕ = k - column in
        let place : column + i ≡ k = omega (arith, after) in
        let within : i < n = omega (arith, place, b) in
        let kept = column-kept weights count width column k start old size other after (omega (arith, b, fits)) h in
        subst (λ p. get_or new (r * width + p) nought ≡ coefficient_of weights (matrix_of count width old) r p) place (put.done r i a within)
        ∙ ap (λ xs. weighted_sum nought sum product xs (row_of (matrix_of count count weights) r)) kept
  ];
  others = λ r k a b m. put.behind r k a b m ∙ h.others r k a (omega (arith, b)) m;
}

-- a row of a strip is written over cells
module _ (rows width k r q : ℕ) (value : ℕ → ℕ → F) (start cells row : List F) (e : q ≡ 32) (size : length cells ≡ rows * width) (inside : r < rows)
    (fits : k + 32 ≤ width) (long : length row ≡ q) (is : (c : ℕ) → c < 32 → get_or row c nought ≡ value r c) where
  abbrev at : ℕ
  at = r * width + k

  abbrev new : List F
  new = take at cells ++ (row ++ drop q (drop at cells))

  room : at + q ≤ length cells
  room = omega (arith, row_fits r width rows width inside (omega arith), fits, e, size)

  -- a row before it ends before it
  apart : (i : ℕ) → i < r → i * width + width ≤ r * width
  apart i b = row_fits i width r width b (omega arith)

  -- and a row behind it begins behind it
  behind : (i : ℕ) → r < i → r * width + width ≤ i * width
  behind i b = row_fits r width i width b (omega arith)

  pub strip-done : ((i c : ℕ) → i < r → c < 32 → get_or cells (i * width + (k + c)) nought ≡ value i c) → (i c : ℕ) → i < r + 1 → c < 32 → get_or new (i * width + (k + c)) nought ≡ value i c
  strip-done h i c a b = grind (arith, cases_lt, put-before, put-within)

  pub strip-before : ((i c : ℕ) → i < rows → c < k → get_or cells (i * width + c) nought ≡ get_or start (i * width + c) nought)
      → (i c : ℕ) → i < rows → c < k → get_or new (i * width + c) nought ≡ get_or start (i * width + c) nought
  strip-before h i c a b = elim (cases_lt r i) as (λ _. get_or new (i * width + c) nought ≡ get_or start (i * width + c) nought) [
    | inl after ↦ put-after nought cells row at q room long (i * width + c) (omega (arith, behind i after, fits, e)) ∙ h i c a b
    | inr upto ↦
        let up : i * width ≤ r * width = mul-le i width r width upto (omega arith) in
        put-before nought cells row at q room long (i * width + c) (omega (arith, up, b)) ∙ h i c a b
  ]

  pub strip-behind : ((i c : ℕ) → i < rows → k + 32 ≤ c → c < width → get_or cells (i * width + c) nought ≡ get_or start (i * width + c) nought)
      → (i c : ℕ) → i < rows → k + 32 ≤ c → c < width → get_or new (i * width + c) nought ≡ get_or start (i * width + c) nought
  strip-behind h i c a b l = elim (cases_lt i r) as (λ _. get_or new (i * width + c) nought ≡ get_or start (i * width + c) nought) [
    | inl before ↦ put-before nought cells row at q room long (i * width + c) (omega (arith, apart i before, l)) ∙ h i c a b l
    | inr past ↦
        let up : r * width ≤ i * width = mul-le r width i width past (omega arith) in
        put-after nought cells row at q room long (i * width + c) (omega (arith, up, b, e)) ∙ h i c a b l
  ]

-- where as many cells are written over others, no other is left
pub written-back : (n : ℕ) (new old : List F) → length new ≡ n → length old ≡ n → take n (new ++ drop (length new) old) ≡ new
written-back n new old count other =
    ap (λ xs. take n (new ++ xs)) (drop_all (length new) old (omega (arith, count, other))) ∙ ap (take n) (append-nil new) ∙ take_all n new (omega (arith, count))
