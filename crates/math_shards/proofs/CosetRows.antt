-- Rows that have the cells of cosets have the values of the polynomials.
use Rattle.std.proofs.Common.{◌≡◌, ◌↔◌, ◌∙◌, inl, inr, ℕ, ◌+◌, ◌-◌, ◌*◌, ◌/◌, ◌%◌, ◌<◌, ◌≤◌, ◌^◌, List, length, take, drop, get_or, sym, ap, subst, arith}
use Rattle.std.specs.List.{All, AllZip}
use Rattle.std.proofs.lemmas.Bool.{cases_lt}
use Rattle.std.proofs.lemmas.List.{get_or-drop, get_or-take, length-drop, length-take-le}
use Rattle.std.proofs.lemmas.List.Elements.{AllZip-get_or}
use Rattle.std.proofs.lemmas.Nat.{shr_below, shr_split}
use Rattle.math_theory.specs.Values.{value}
use Rattle.math_fields.specs.declared.goldilocks.F.{F}
use Rattle.math_fields.specs.Elements.{number, residue, root_of, same, sum, product}
use Rattle.math_ntt.proofs.MatrixPlaces.{rows_are_full, rows_hold_cells}
use Rattle.math_transforms.specs.DomainValues.{matrix_of}
use Rattle.math_transforms.specs.Matrices.{MatrixOf, column_of}
use Rattle.math_shards.specs.Cosets.{AreCosetValues, HasCosetCells, HasValuesFrom}
use Rattle.math_splitting.specs.Shards.{value_at_index}
use Rattle.math_restoring.specs.CosetDivisions.{raised}
use Rattle.math_shards.proofs.RootPowers.{coset_point}
use Rattle.math_splitting.proofs.SameCells.{nought, same_by_items}

-- the first n cells of the row are the values, at power `index` of the root of order 2^lg, of the polynomials whose coefficients are the first columns of m
abbrev pub HasFirstValues : ℕ → MatrixOf F → ℕ → ℕ → List F → Type 0
HasFirstValues lg m n index row = (k : ℕ) → k < n → same (get_or row k nought) (value_at_index lg (column_of nought m k) index)

-- A row whose index is that of a point of a coset.
module _ (lg s start : ℕ) (m : MatrixOf F) (from c : ℕ) (ratio : F) (strip : List F) (i : ℕ) (row : List F) (small : lg + s ≤ 32) (is : same ratio (raised (root_of (lg + s)) start))
    (count : length strip ≡ 2 ^ lg * c) (values : AreCosetValues m from c ratio lg strip) (below : i < 2 ^ (lg + s)) (here : i % 2 ^ s ≡ start) where
  abbrev t : ℕ
  t = i / 2 ^ s

  inside : t < 2 ^ lg
  inside = shr_below i lg s below

  wide : length (take c (drop (t * c) strip)) ≡ c
  wide = rows_are_full (matrix_of (2 ^ lg) c strip) t count inside

  -- the cells of the coset in the row of the point are the values
  strip_at : (k : ℕ) → k < c → same (get_or (take c (drop (t * c) strip)) k nought) (value_at_index (lg + s) (column_of nought m (from + k)) i)
  strip_at k b =
      let v = matrix_of (2 ^ lg) c strip in
      let at : start + 2 ^ s * t ≡ i = omega (arith, here, shr_split i s) in
      let point : product ratio (raised (root_of lg) t) ≡ raised (root_of (lg + s)) i = coset_point lg s start t ratio small is ∙ ap (raised (root_of (lg + s))) at in
      ap number (rows_hold_cells v t k nought b) ∙ values t k inside b ∙ ap (λ x. number (value nought sum product (residue 1) x (column_of nought m (from + k)))) point

  row_at : (k : ℕ) → k < c → get_or (take c (drop from row)) k nought ≡ get_or row (from + k) nought
  row_at k b = get_or-take c (drop from row) k nought b ∙ get_or-drop from row k nought

  -- so a row that has the cells has the values
  row_valued : HasCosetCells strip c from start s i row → HasValuesFrom (lg + s) m from c i row
  row_valued has = λ k b.
      sym (ap number (row_at k b))
      ∙ sym (AllZip-get_or same (take c (drop (t * c) strip)) (take c (drop from row)) k nought nought (has here) (omega (arith, b, wide)))
      ∙ strip_at k b

  -- and one that has the values has the cells
  row_celled : from + c ≤ length row → HasValuesFrom (lg + s) m from c i row → AllZip same (take c (drop (t * c) strip)) (take c (drop from row))
  row_celled long have =
      same_by_items c (take c (drop (t * c) strip)) (take c (drop from row)) wide (length-take-le c (drop from row) (omega (arith, long, length-drop from row)))
      (λ k b. strip_at k b ∙ sym (have k b) ∙ sym (ap number (row_at k b)))

module _ {R : Type 0} (index : R → ℕ) (cells_of : R → List F) (rows : List R) where
  -- rows of a coset have its cells where they have the values
  pub coset-valued : (lg s total start : ℕ) (m : MatrixOf F) (from c : ℕ) (ratio : F) (strip : List F) → lg + s ≡ total → total ≤ 32
      → same ratio (raised (root_of total) start) → length strip ≡ 2 ^ lg * c → AreCosetValues m from c ratio lg strip
      → All (λ row. index row < 2 ^ total) rows → All (λ row. from + c ≤ length (cells_of row)) rows
      → All (λ row. HasCosetCells strip c from start s (index row) (cells_of row)) rows
      ↔ All (λ row. index row % 2 ^ s ≡ start → HasValuesFrom total m from c (index row) (cells_of row)) rows
  coset-valued lg s total start m from c ratio strip e small is count values below long = (
    λ has k d l here.
        let row : R = get_or rows k d in
        subst (λ n. HasValuesFrom n m from c (index row) (cells_of row)) e
        (row_valued lg s start m from c ratio strip (index row) (cells_of row) (omega (arith, e, small)) (rw (← e) at is) count values (rw (← e) at (below k d l)) here (has k d l)),
    λ have k d l here.
        let row : R = get_or rows k d in
        row_celled lg s start m from c ratio strip (index row) (cells_of row) (omega (arith, e, small)) (rw (← e) at is) count values (rw (← e) at (below k d l)) here (long k d l)
        (subst (λ n. HasValuesFrom n m from c (index row) (cells_of row)) (sym e) (have k d l here)),
  )

  -- rows of cosets of which one more has the values
  pub coset-more : (s total start : ℕ) (m : MatrixOf F) (from c : ℕ)
      → All (λ row. index row % 2 ^ s ≡ start → HasValuesFrom total m from c (index row) (cells_of row)) rows
      → All (λ row. index row % 2 ^ s < start → HasValuesFrom total m from c (index row) (cells_of row)) rows
      → All (λ row. index row % 2 ^ s < start + 1 → HasValuesFrom total m from c (index row) (cells_of row)) rows
  coset-more s total start m from c here before = grind arith

  -- rows whose first values are those of the columns, and the next ones too
  pub values-more : (lg : ℕ) (m : MatrixOf F) (from c : ℕ) → All (λ row. HasFirstValues lg m from (index row) (cells_of row)) rows
      → All (λ row. HasValuesFrom lg m from c (index row) (cells_of row)) rows → All (λ row. HasFirstValues lg m (from + c) (index row) (cells_of row)) rows
  values-more lg m from c before here = λ i d l k b.
      elim (cases_lt k from) [
        | inl first ↦ before i d l k first
        | inr further ↦
            let q : from + (k - from) ≡ k = omega (arith, further) in
            let there : k - from < c = omega (arith, further, b) in
            rw q at (here i d l (k - from) there)
      ]
