-- The cells of a coset: rows of coefficients times the powers of a ratio, with zeros behind them, and the values of their columns.
use Rattle.std.proofs.Common.{◌≡◌, ◌∙◌, inl, inr, ℕ, ◌+◌, ◌-◌, ◌*◌, ◌<◌, ◌≤◌, ◌^◌, List, [], ◌++◌, length, take, drop, get_or, replicate, sym, ap, ap₂, append-nil, arith}
use Rattle.std.proofs.lemmas.Bool.{cases_lt}
use Rattle.std.proofs.lemmas.List.{drop-drop, drop_all, get_or_append_left, get_or_past, get_or-take, length-append, length-drop, length-replicate, length-take-le}
use Rattle.std.proofs.lemmas.Nat.{mul-add-lt, mul-le}
use Rattle.math_fields.specs.declared.goldilocks.F.{F}
use Rattle.math_fields.specs.Elements.{number, root_of, same, product, goldilocks}
use Rattle.math_fields.proofs.ElementNumbers.{same_number}
use Rattle.math_transforms.specs.DomainValues.{AreValuesAtPowers, matrix_of}
use Rattle.math_transforms.specs.Matrices.{column_of}
use Rattle.math_transforms.proofs.MatrixRows.{cell-of_column}
use Rattle.math_transforms.proofs.WrittenRows.{part-read, row-done}
use Rattle.math_shards.specs.Cosets.{AreCosetValues, AreMultiples}
use Rattle.math_restoring.specs.CosetDivisions.{raised}
use Rattle.math_shards.proofs.RootPowers.{dilated_values, nought-product, product-one, raised-none}
use Rattle.math_splitting.proofs.SameCells.{nought}
use Rattle.math_splitting.proofs.StripColumns.{zeros-behind}

-- the first n rows of c cells are those of the elements from column `from` on, each times the power of the ratio that is its row
abbrev pub HoldMultiples : List F → ℕ → ℕ → ℕ → F → ℕ → List F → Type 0
HoldMultiples elements width from c ratio n cells =
    (r k : ℕ) → r < n → k < c → same (get_or cells (r * c + k) nought) (product (get_or elements (r * width + from + k) nought) (raised ratio r))

-- items over the first n cells leave as many cells
pub length-begun : (n : ℕ) (cells items : List F) → n ≤ length cells → length items ≡ length (take n cells) → length (items ++ drop n cells) ≡ length cells
length-begun n cells items l e = omega (arith, e, length-append items (drop n cells), length-drop n cells, length-take-le n cells l)

-- and each of these cells is then an item
pub begun-at : (n from m k : ℕ) (elements cells items : List F) → items ≡ take m (drop from elements) → k < m → k < length items
    → get_or (items ++ drop n cells) k nought ≡ get_or elements (from + k) nought
begun-at n from m k elements cells items e l b =
    get_or_append_left items (drop n cells) nought k b ∙ ap (λ xs. get_or xs k nought) e ∙ part-read nought elements from m k l

-- the first row is that of the elements
pub multiples-first : (elements : List F) (width from c : ℕ) (ratio : F) (cells : List F) → ((k : ℕ) → k < c → get_or cells k nought ≡ get_or elements (from + k) nought)
    → HoldMultiples elements width from c ratio 1 cells
multiples-first elements width from c ratio cells copied = grind (arith, raised-none, product-one)

-- a cell of a row of multiples
pub multiple_at : (elements row : List F) (at m k : ℕ) (factor x : F) → AreMultiples (take m (drop at elements)) factor row → k < m → k < length row → same factor x
    → same (get_or row k nought) (product (get_or elements (at + k) nought) x)
multiple_at elements row at m k factor x h l b e = h k b ∙ ap₂ (λ y z. number (product y z)) (part-read nought elements at m k l) (same_number factor x e)

-- with one row more, written over the cells
pub multiples-more : (elements : List F) (width from c : ℕ) (ratio : F) (i n : ℕ) (cells row : List F) → n ≡ c → i * c + c ≤ length cells → length row ≡ n
    → HoldMultiples elements width from c ratio i cells
    → ((k : ℕ) → k < c → same (get_or row k nought) (product (get_or elements (i * width + from + k) nought) (raised ratio i)))
    → HoldMultiples elements width from c ratio (i + 1) (take (i * c) cells ++ (row ++ drop n (drop (i * c) cells)))
multiples-more elements width from c ratio i n cells row e within long hold here =
    row-done nought (λ j l x. same x (product (get_or elements (j * width + from + l) nought) (raised ratio j))) cells cells row i c n e within long hold here

-- zeros over all cells from place a on
pub zeros_over : (a m k : ℕ) (cells zeros : List F) (z : F) → a ≤ length cells → m ≡ length cells - a → k ≡ m → same z nought → zeros ≡ replicate k z
    → take a cells ++ (zeros ++ drop m (drop a cells)) ≡ take a cells ++ replicate m nought
zeros_over a m k cells zeros z l left all is made =
    let none : drop m (drop a cells) ≡ [] = drop-drop m a cells ∙ drop_all (a + m) cells (omega (arith, left)) in
    ap (λ xs. take a cells ++ (zeros ++ xs)) none
    ∙ ap (λ xs. take a cells ++ xs) (append-nil zeros ∙ made ∙ ap (λ i. replicate i z) all ∙ ap (λ x. replicate m x) (same_number z nought is))

-- rows of multiples and zeros behind them: the columns have the coefficients times the powers of the ratio
pub coset_columns : (elements : List F) (min width from c n m : ℕ) (ratio : F) (cells new : List F) → length elements ≡ min * width → from + c ≤ width → min ≤ n
    → length cells ≡ n * c → m ≡ length cells - min * c → HoldMultiples elements width from c ratio min cells → new ≡ take (min * c) cells ++ replicate m nought
    → (k : ℕ) → k < c → (i : ℕ)
    → same (get_or (column_of nought (matrix_of n c new) k) i nought) (product (get_or (column_of nought (matrix_of min width elements) (from + k)) i nought) (raised ratio i))
coset_columns elements min width from c n m ratio cells new whole within tall long left hold made k b i =
    let column = get_or (column_of nought (matrix_of min width elements) (from + k)) i nought in
    let up : min * c ≤ n * c = mul-le min c n c tall (omega arith) in
    let front : length (take (min * c) cells) ≡ min * c = length-take-le (min * c) cells (omega (arith, long, up)) in
    let count : length new ≡ n * c = omega (arith, ap length made, length-append (take (min * c) cells) (replicate m nought), length-replicate m nought, front, left, long, up) in
    let cell : get_or (column_of nought (matrix_of n c new) k) i nought ≡ get_or (take (min * c) cells) (i * c + k) nought =
    cell-of_column nought (matrix_of n c new) k i b count ∙ ap (λ xs. get_or xs (i * c + k) nought) made ∙ zeros-behind (take (min * c) cells) m (i * c + k) in
    let element : column ≡ get_or elements (i * width + (from + k)) nought =
    cell-of_column nought (matrix_of min width elements) (from + k) i (omega (arith, b, within)) whole in
    let place : i * width + from + k ≡ i * width + (from + k) = omega arith in
    elim (cases_lt i min) [
      | inl inside ↦
          ap number (cell ∙ get_or-take (min * c) cells (i * c + k) nought (let l : i * c + k < c * min = mul-add-lt i c k min inside b in omega (arith, l)))
          ∙ hold i k inside b ∙ ap (λ p. number (product (get_or elements p nought) (raised ratio i))) place ∙ sym (ap (λ x. number (product x (raised ratio i))) element)
      | inr past ↦
          let beyond : min * c ≤ i * c = mul-le min c i c past (omega arith) in
          let above : min * width ≤ i * width = mul-le min width i width past (omega arith) in
          let none : column ≡ nought = element ∙ get_or_past elements (i * width + (from + k)) nought (omega (arith, whole, above)) in
          ap number (cell ∙ get_or_past (take (min * c) cells) (i * c + k) nought (omega (arith, front, beyond)))
          ∙ sym (ap (λ x. number (product x (raised ratio i))) none ∙ nought-product (raised ratio i))
    ]

-- the values of these columns are those of the columns of the elements on the coset
pub coset_valued : (elements : List F) (min width from c lg : ℕ) (ratio : F) (cells new : List F)
    → ((k : ℕ) → k < c → (i : ℕ) → same (get_or (column_of nought (matrix_of (2 ^ lg) c cells) k) i nought)
    (product (get_or (column_of nought (matrix_of min width elements) (from + k)) i nought) (raised ratio i)))
    → AreValuesAtPowers goldilocks (root_of lg) (matrix_of (2 ^ lg) c cells) (matrix_of (2 ^ lg) c new) → AreCosetValues (matrix_of min width elements) from c ratio lg new
coset_valued elements min width from c lg ratio cells new columns values = grind (arith, dilated_values)
