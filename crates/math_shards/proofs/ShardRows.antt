-- Matrices whose columns are the same polynomials, and the cells of the rows that data fill.
use Rattle.std.proofs.Common.{◌≡◌, inl, inr, ℕ, zero, suc, ◌+◌, ◌*◌, ◌/◌, ◌%◌, ◌<◌, ◌≤◌, List, take, get_or, refl, sym, ◌∙◌, ap, ap₂, mul-zero, arith}
use Rattle.std.proofs.Math.Nat.{mul_comm}
use Rattle.std.proofs.lemmas.Bool.{cases_lt}
use Rattle.std.proofs.lemmas.List.{get_or_past, get_or-take, length-take-le}
use Rattle.std.proofs.lemmas.Nat.{mul-add-lt, mul-le}
use Rattle.math_fields.specs.declared.goldilocks.F.{F}
use Rattle.math_fields.specs.Elements.{number, same}
use Rattle.math_ntt.specs.MatrixPlaces.{IsFull}
use Rattle.math_ntt.proofs.MatrixPlaces.{columns_are_full}
use Rattle.math_transforms.specs.Matrices.{AreSameMatrices, IsOfSize, MatrixOf, column_of}
use Rattle.math_ntt.specs.PolynomialRows.{HaveSamePolynomials}
use Rattle.math_transforms.proofs.MatrixRows.{cell-of_column}
use Rattle.math_shards.specs.Joining.{ArePolynomialsOf}
use Rattle.math_splitting.specs.Shards.{rows_for, width_for}
use Rattle.math_values.proofs.ElementRing.{same_are_equal}
use Rattle.math_splitting.proofs.LaidOutData.{rows_are_whole}
use Rattle.math_splitting.proofs.SameCells.{nought, same_by_items}

-- where the columns are the same polynomials, so are the cells of the rows that both have
same_cells_at : (rows : ℕ) (q m : MatrixOf F) → IsFull q → IsFull m → q.cols ≡ m.cols → HaveSamePolynomials same nought q m
    → (cols : ℕ) → m.cols ≡ cols → (n : ℕ) → n < rows * cols → same (get_or q.cells n nought) (get_or m.cells n nought)
same_cells_at rows q m h k e columns zero f n l = absurd (omega (arith, l, mul-zero rows))
same_cells_at rows q m h k e columns (suc c) f n l =
    let i = n / suc c in
    let j = n % suc c in
    let within : j < m.cols = omega (arith, f) in
    ap (λ p. number (get_or q.cells p nought)) (sym (place n q (e ∙ f)))
    ∙ sym (ap number (cell-of_column nought q j i (omega (arith, within, e)) h))
    ∙ columns j within i
    ∙ ap number (cell-of_column nought m j i within k)
    ∙ ap (λ p. number (get_or m.cells p nought)) (place n m f)
  where
    place : (n : ℕ) (m : MatrixOf F) → m.cols ≡ suc c → (n / suc c) * m.cols + n % suc c ≡ n
    place n m e = rw e (omega (arith, mul_comm (n / suc c) (suc c)))

-- so matrices of one size whose columns are the same polynomials are same
pub same_by_columns : (r c : ℕ) (q m : MatrixOf F) → IsOfSize q r c → IsOfSize m r c → HaveSamePolynomials same nought q m → AreSameMatrices same q m
same_by_columns r c q m size other columns = grind (arith, same_by_items, same_cells_at)

-- and the first cells of a matrix whose columns are the polynomials of data are those of the rows
pub cells_of_recovered : (words : List ℕ) (min r width : ℕ) (q : MatrixOf F) → 1 ≤ min → min ≤ r → IsOfSize q r width → ArePolynomialsOf words min q
    → take (min * q.cols) q.cells ≡ (rows_for min words).cells
cells_of_recovered words min r width q some enough size same_as =
    let m = rows_for min words in
    let n = min * q.cols in
    let whole : IsFull m = rows_are_whole min words some in
    let full : IsFull q = size.2 ∙ sym (ap₂ (λ x y. x * y) size.0 size.1) in
    let all : n ≤ q.rows * q.cols = mul-le min q.cols q.rows q.cols (omega (arith, enough, size.0)) (omega arith) in
    let cols : n ≡ min * m.cols = ap (λ c. min * c) same_as.0 in
    same_are_equal (take n q.cells) m.cells
    (same_by_items n (take n q.cells) m.cells (length-take-le n q.cells (omega (arith, all, full))) (whole ∙ sym cols)
    (λ i b. ap number (get_or-take n q.cells i nought b) ∙ same_cells_at min q m full whole same_as.0 same_as.1 m.cols refl i (omega (arith, b, cols))))

-- where the first rows of polynomials are the rows of data, and no coefficient behind them is other than zero, the polynomials are those of the data
pub polynomials_of_rows : (words : List ℕ) (min r width : ℕ) (q : MatrixOf F) → 1 ≤ min → min ≤ r → IsOfSize q r width → width ≡ width_for min words
    → take (min * width) q.cells ≡ (rows_for min words).cells
    → ((k i : ℕ) → k < q.cols → min ≤ i → same (get_or (column_of nought q k) i nought) nought) → ArePolynomialsOf words min q
polynomials_of_rows words min r width q some enough size wide cells zeros = (
  size.1 ∙ wide,
  λ k l i.
      let m = rows_for min words in
      let whole : IsFull m = rows_are_whole min words some in
      let full : IsFull q = size.2 ∙ sym (ap₂ (λ x y. x * y) size.0 size.1) in
      let inside : k < q.cols = omega (arith, l, size.1, wide) in
      elim (cases_lt i min) as (λ _. same (get_or (column_of nought q k) i nought) (get_or (column_of nought m k) i nought)) [
        | inl front ↦
            let place : i * q.cols + k ≡ i * m.cols + k = ap (λ c. i * c + k) (size.1 ∙ wide) in
            let there : i * q.cols + k < min * width = omega (arith, mul-add-lt i q.cols k min front inside, ap (λ c. c * min) size.1) in
            ap number (cell-of_column nought q k i inside full) ∙ sym (ap number (get_or-take (min * width) q.cells (i * q.cols + k) nought there))
            ∙ ap (λ (xs : List F). number (get_or xs (i * q.cols + k) nought)) cells ∙ ap (λ p. number (get_or m.cells p nought)) place
            ∙ sym (ap number (cell-of_column nought m k i l whole))
        | inr behind ↦
            zeros k i inside behind ∙ sym (ap number (get_or_past (column_of nought m k) i nought (omega (arith, behind, columns_are_full m k nought))))
      ],
)
