-- Columns of cells that are restored strip by strip: their polynomials have the cells of the rows as their values.
use Rattle.std.proofs.Common.{◌≡◌, ◌≢◌, ◌∙◌, ◌⊎◌, inl, inr, ℕ, zero, suc, ◌+◌, ◌-◌, ◌*◌, ◌<◌, ◌≤◌, ◌^◌, List, [], ◌∷◌, length, map, get_or, refl, sym, ap, arith}
use Rattle.std.specs.List.{All, range_with_len}
use Rattle.std.proofs.lemmas.Bool.{cases_eq, cases_lt}
use Rattle.std.proofs.lemmas.List.{get_or-map, get_or_past, length-map}
use Rattle.std.proofs.lemmas.List.FromFn.{get_or-range_with_len, length-range_with_len}
use Rattle.math_theory.specs.BitReversal.{bit_reversed}
use Rattle.math_theory.specs.Coefficients.{HaveSameCoefficients}
use Rattle.math_theory.specs.Recovery.{Fits, count_true}
use Rattle.math_theory.proofs.rings.Normal.{ring, ◌⊗◌, 𝟘, v0}
use Rattle.math_theory.proofs.transforms.BitOrder.{bit_reversed-below}
use Rattle.math_fields.specs.declared.goldilocks.F.{F}
use Rattle.math_fields.specs.Elements.{number, product, residue, root_of, same, sum}
use Rattle.math_transforms.specs.DomainValues.{matrix_of}
use Rattle.math_transforms.proofs.DomainSteps.{column-cell}
use Rattle.math_transforms.proofs.MatrixRows.{length-column}
use Rattle.math_restoring.specs.declared.dividing.CosetDivision.{CosetDivision}
use Rattle.math_restoring.specs.CosetDivisions.{DoColumnsFit, IsCosetDivision, raised}
use Rattle.math_restoring.specs.Restored.{AreDistinct, AreFilled, ArePlaced, ArePlacesOf, AreTaken, FitsAt, HaveCellsAsValues}
use Rattle.math_restoring.proofs.CombinedColumns.{at, column, column_kept, nought, one_row}
use Rattle.math_values.proofs.ElementRing.{elements}
use Rattle.math_values.proofs.ElementValues.{same_values}
use Rattle.math_transforms.proofs.ReversedBits.{reversed-only}

-- the value at power i of the root of order 2^lg
abbrev pub value_at : ℕ → List F → ℕ → F
value_at lg p i = at (raised (root_of lg) i) p

-- where there is one index, the cells themselves are the coefficients
pub one_index : (lg : ℕ) (indices : List ℕ) (width : ℕ) (cells : List F) → length indices ≡ 1 → HaveCellsAsValues lg indices width cells cells
one_index lg indices width cells one t k a b =
    let first : t ≡ 0 = omega (arith, a, one) in
    let place : 0 * width + k ≡ k = omega arith in
    rw (first, place, one) (ap number (one_row width k (raised (root_of lg) (get_or indices 0 0)) cells b))

-- where there is no column, there is nothing to show
pub no_columns : (lg : ℕ) (indices : List ℕ) (width : ℕ) (old new : List F) → width ≡ 0 → HaveCellsAsValues lg indices width old new
no_columns lg indices width old new none t k a b = absurd (omega (arith, b, none))

-- a place of one of the indices, or that there is none
abbrev Where : List ℕ → ℕ → Type 0
Where indices i = ((t : ℕ) × (t < length indices) × (get_or indices t 0 ≡ i)) ⊎ ((t : ℕ) → t < length indices → get_or indices t 0 ≢ i)

-- where it stands
where_is : (indices : List ℕ) (i : ℕ) → Where indices i
where_is [] i = inr (λ t l. absurd (omega (arith, l)))
where_is (x ∷ xs) i = elim (cases_eq x i) as (λ _. Where (x ∷ xs) i) [
  | inl here ↦ inl (zero, omega arith, here)
  | inr apart ↦ elim (where_is xs i) as (λ _. Where (x ∷ xs) i) [
    | inl (t, l, e) ↦ inl (suc t, omega (arith, l), e)
    | inr none ↦ inr (not_there x xs i apart none)
  ]
]
  where
    -- it is not the first one, and none of the others
    not_there : (x : ℕ) (xs : List ℕ) (i : ℕ) → (x ≢ i) → ((t : ℕ) → t < length xs → get_or xs t 0 ≢ i) → (t : ℕ) → t < length (x ∷ xs) → get_or (x ∷ xs) t 0 ≢ i
    not_there x xs i apart none zero l = apart
    not_there x xs i apart none (suc t) l = none t (omega (arith, l))

-- the cell of the row whose index it is, and zero where there is none
abbrev cell_there : (indices : List ℕ) (i : ℕ) → (ℕ → F) → Where indices i → F
cell_there indices i f (inl (t, l, e)) = f t
cell_there indices i f (inr none) = nought

-- the cell of an index that is there
cell_found : (indices : List ℕ) (f : ℕ → F) (t : ℕ) → AreDistinct indices → t < length indices → (w : Where indices (get_or indices t 0)) → cell_there indices (get_or indices t 0) f w ≡ f t
cell_found indices f t distinct l (inl (s, m, e)) = elim (cases_lt s t) as (λ _. f s ≡ f t) [
  | inl before ↦ absurd (distinct s t before l e)
  | inr o ↦ elim (cases_lt t s) as (λ _. f s ≡ f t) [
    | inl after ↦ absurd (distinct t s after m (sym e))
    | inr p ↦ let at : s ≡ t = omega (arith, o, p) in ap f at
  ]
]
cell_found indices f t distinct l (inr none) = absurd (none t l refl)

-- the cells of all points of a domain
abbrev cells_of : List ℕ → (ℕ → F) → ℕ → List F
cells_of indices f n = map (λ i. cell_there indices i f (where_is indices i)) (range_with_len 0 n)

-- there is a cell for each point
cells-count : (indices : List ℕ) (f : ℕ → F) (n : ℕ) → length (cells_of indices f n) ≡ n
cells-count indices f n = length-map (range_with_len 0 n) (λ i. cell_there indices i f (where_is indices i)) ∙ length-range_with_len 0 n

-- the cell of a point
cell-of : (indices : List ℕ) (f : ℕ → F) (n i : ℕ) → i < n → get_or (cells_of indices f n) i nought ≡ cell_there indices i f (where_is indices i)
cell-of indices f n i l =
    let cell : ℕ → F = λ j. cell_there indices j f (where_is indices j) in
    let at : get_or (range_with_len 0 n) i 0 ≡ i = get_or-range_with_len 0 n i 0 l ∙ (let e : 0 + i ≡ i = omega arith in e) in
    get_or-map cell (range_with_len 0 n) i 0 nought (omega (arith, l, length-range_with_len 0 n)) ∙ ap cell at

-- zero times an element
zero_times : (x y : F) → same x nought → same x (product nought y)
zero_times x y e = e ∙ ap number (ring elements (y ∷ []) 𝟘 (𝟘 ⊗ v0) refl)

-- what is placed is the cell of its point times the factor
module _ (lg : ℕ) (indices places : List ℕ) (factors : List F) (c : ℕ) (cell : ℕ → ℕ → F) (placed : List F) (below : All (λ i. i < 2 ^ lg) indices)
    (are : ArePlacesOf lg indices places) (put : ArePlaced (2 ^ lg) places factors c cell placed) (k : ℕ) (b : k < c) where
  -- the cell of a row in the column
  abbrev cell_in : ℕ → F
  cell_in t = cell t k

  -- by whether the point is that of an index
  placed_at : (i : ℕ) → i < 2 ^ lg → (w : Where indices i)
      → same (get_or placed (bit_reversed lg i * c + k) nought) (product (cell_there indices i cell_in w) (get_or factors (bit_reversed lg i) nought))
  placed_at i l (inl (t, a, e)) =
      let place : get_or places t 0 ≡ bit_reversed lg i = are.each t a ∙ ap (bit_reversed lg) e in
      rw (← place) (put.placed t k (omega (arith, a, are.count)) b)
  placed_at i l (inr none) =
      zero_times (get_or placed (bit_reversed lg i * c + k) nought) (get_or factors (bit_reversed lg i) nought)
      (put.others (bit_reversed lg i) k (bit_reversed-below lg i) b
      (λ t a e.
      let here : t < length indices = omega (arith, a, are.count) in
      none t here (reversed-only lg (get_or indices t 0) i (below t 0 here) l (sym (are.each t here) ∙ e))))

  -- for each point, by its cell in natural order
  placed_cells : (i : ℕ) → i < 2 ^ lg
      → same (get_or placed (bit_reversed lg i * c + k) nought) (product (get_or (cells_of indices cell_in (2 ^ lg)) i nought) (get_or factors (bit_reversed lg i) nought))
  placed_cells i l =
      placed_at i l (where_is indices i)
      ∙ ap (λ x. number (product x (get_or factors (bit_reversed lg i) nought))) (sym (cell-of indices cell_in (2 ^ lg) i l))

-- What is placed and then divided has the cells as its values.
module _ (d : CosetDivision) (indices places : List ℕ) (c : ℕ) (cell : ℕ → ℕ → F) (old new : List F) (division : IsCosetDivision d) (count : count_true d.points ≡ length indices)
    (filled : AreFilled indices d.points) (below : All (λ i. i < 2 ^ d.lg) indices) (distinct : AreDistinct indices) (are : ArePlacesOf d.lg indices places)
    (put : ArePlaced (2 ^ d.lg) places d.factors.items c cell old) (fits : DoColumnsFit d c old new) where
  -- the cells of a column, in natural order
  abbrev natural : ℕ → List F
  natural k = cells_of indices (λ t. cell t k) (2 ^ d.lg)

  -- the coefficients fit them
  fit_of_column : (k : ℕ) → k < c → Fits same nought sum product (residue 1) (root_of d.lg) (natural k) d.points (column (2 ^ d.part) c k new)
  fit_of_column k b =
      fits k (natural k) b (cells-count indices (λ t. cell t k) (2 ^ d.lg)) (placed_cells d.lg indices places d.factors.items c cell old below are put k b)

  pub values_of_column : (k : ℕ) → k < c → FitsAt d.lg indices (λ t. cell t k) (column (2 ^ d.part) c k new)
  values_of_column k b = record {
    few = λ i past. (fit_of_column k b).zero_from i (omega (arith, past, count));
    values = λ t a.
        let i = get_or indices t 0 in
        let f : ℕ → F = λ s. cell s k in
        let domain : i < 2 ^ d.lg = below t 0 a in
        (fit_of_column k b).agrees i (omega (arith, domain, cells-count indices f (2 ^ d.lg))) (filled t a)
        ∙ ap number (cell-of indices f (2 ^ d.lg) i domain ∙ cell_found indices f t distinct a (where_is indices i));
  }

-- in the first n columns the coefficients are written, and the cells of the further ones are as they were
pub record AreRestoredBefore (lg : ℕ) (indices : List ℕ) (width : ℕ) (start : List F) (n : ℕ) (cells : List F) : Type 0 where
  pub done : (t k : ℕ) → t < length indices → k < n
      → same (value_at lg (column (length indices) width k cells) (get_or indices t 0)) (get_or start (t * width + k) nought)
  pub left : (r k : ℕ) → r < length indices → n ≤ k → k < width → get_or cells (r * width + k) nought ≡ get_or start (r * width + k) nought

-- A strip more.
module _ (lg part : ℕ) (indices : List ℕ) (width from c : ℕ) (start old new strip : List F) (few : length indices ≤ 2 ^ part) (within : from + c ≤ width)
    (restored : (k : ℕ) → k < c → FitsAt lg indices (λ t. get_or old (t * width + from + k) nought) (column (2 ^ part) c k strip))
    (taken : AreTaken width from c (length indices) strip old new) where
  -- the coefficients of a column are those of the strip
  coefficients_of_strip : (j : ℕ) → j < c → HaveSameCoefficients same nought (column (length indices) width (from + j) new) (column (2 ^ part) c j strip)
  coefficients_of_strip j b i =
      let n = length indices in
      let p = column n width (from + j) new in
      let q = column (2 ^ part) c j strip in
      elim (cases_lt i n) as (λ _. same (get_or p i nought) (get_or q i nought)) [
        | inl inside ↦
            ap number
            (column-cell nought n width (from + j) i new inside (omega (arith, b, within)) ∙ taken.written i j inside b
            ∙ sym (column-cell nought (2 ^ part) c j i strip (omega (arith, inside, few)) b))
        | inr past ↦
            ap number (get_or_past p i nought (omega (arith, past, length-column nought (matrix_of n width new) (from + j))))
            ∙ sym ((restored j b).few i past)
      ]

  -- its values at the indices are the cells
  value_of_strip : (t j : ℕ) → t < length indices → j < c
      → same (value_at lg (column (length indices) width (from + j) new) (get_or indices t 0)) (get_or old (t * width + from + j) nought)
  value_of_strip t j a b =
      same_values _ (column (length indices) width (from + j) new) (column (2 ^ part) c j strip) (coefficients_of_strip j b) ∙ (restored j b).values t a

  -- the columns so far are restored, and these
  pub restored-more : AreRestoredBefore lg indices width start from old → AreRestoredBefore lg indices width start (from + c) new
  restored-more h = record {
    done = λ t k a b.
        let n = length indices in
        elim (cases_lt k from) as (λ _. same (value_at lg (column n width k new) (get_or indices t 0)) (get_or start (t * width + k) nought)) [
          | inl before ↦
              ap (λ p. number (value_at lg p (get_or indices t 0))) (column_kept n width k old new (omega (arith, before, within)) (λ r l. taken.before r k l before))
              ∙ h.done t k a before
          | inr o ↦
              let j = k - from in
              let is : from + j ≡ k = omega (arith, o) in
              let place : t * width + from + j ≡ t * width + k = omega (arith, is) in
              ap (λ m. number (value_at lg (column n width m new) (get_or indices t 0))) (sym is) ∙ value_of_strip t j a (omega (arith, b, o))
              ∙ ap number (ap (λ m. get_or old m nought) place ∙ h.left t k a o (omega (arith, b, within)))
        ];
    left = λ r k a b l. taken.after r k a b l ∙ h.left r k a (omega (arith, b)) l;
  }
