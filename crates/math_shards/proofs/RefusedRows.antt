-- Rows that fit no data: whether two of one index are unequal, and how many indices are distinct.
use Rattle.std.proofs.Common.{◌≡◌, ◌∙◌, inl, inr, ℕ, ◌+◌, ◌<◌, ◌≤◌, List, length, get_or, set, refl, sym, ap, subst, arith}
use Rattle.std.specs.List.{All, AllZip, Contains}
use Rattle.std.specs.List.Sorted.{IsStrictlyIncreasing}
use Rattle.std.proofs.lemmas.Bool.{cases_eq, cases_lt}
use Rattle.std.proofs.lemmas.List.{get_or-set_other, get_or-set_same, get_or_default, length-set}
use Rattle.math_fields.specs.declared.goldilocks.F.{F}
use Rattle.math_fields.specs.Elements.{same}
use Rattle.math_shards.specs.Joining.{ArePlacesByIndex, HaveUnequalCells}
use Rattle.math_shards.proofs.DistinctIndices.{one_place}
use Rattle.math_splitting.proofs.SameCells.{same_as_one, same_by_items}

itself : (xs : List F) → AllZip same xs xs
itself xs = same_by_items (length xs) xs xs refl refl (λ i b. refl)

module _ {R : Type 0} (index : R → ℕ) (cells : R → List F) (indices : List ℕ) (rows : List R) where
  module _ (rising : IsStrictlyIncreasing indices) (i : ℕ) (row : R) (places : List ℕ) (h : ArePlacesByIndex index cells indices rows i places) (l : i < length rows)
      (is : row ≡ get_or rows i row) (p : ℕ) (inside : p < length indices) (at : get_or indices p 0 ≡ index row) where
    row_is : (d : R) → get_or rows i d ≡ row
    row_is d = get_or_default rows i d row l ∙ sym is

    -- the last of the rows so far is row i
    last_is : (k : ℕ) (d : R) → k < i + 1 → i ≤ k → get_or rows k d ≡ row
    last_is k d b c = let q : k ≡ i = omega (arith, b, c) in ap (λ m. get_or rows m d) q ∙ row_is d

    -- and has its index in this place alone
    last_place : (k q : ℕ) (d : R) → k < i + 1 → i ≤ k → q < length indices → get_or indices q 0 ≡ index (get_or rows k d) → q ≡ p
    last_place k q d b c m e = one_place indices rising q p m inside (e ∙ ap index (last_is k d b c) ∙ sym at)

    -- a row whose index no row before it has
    pub places-new : length rows ≤ get_or places p 0 → ArePlacesByIndex index cells indices rows (i + 1) (set places p i)
    places-new none =
        let new : List ℕ = set places p i in
        let here : get_or new p 0 ≡ i = get_or-set_same places p i 0 (omega (arith, inside, h.size)) in
        let other : (x : ℕ) → ¬ (x ≡ p) → get_or new x 0 ≡ get_or places x 0 = λ x apart. get_or-set_other places p x i 0 apart in
        let before : (k q : ℕ) (d : R) → k < i → q < length indices → get_or indices q 0 ≡ index (get_or rows k d) → ¬ (q ≡ p) =
        λ k q d b m e f. omega (arith, none, h.there k q d b m e, ap (λ x. get_or places x 0) f) in
        record {
          size = length-set places p i ∙ h.size;
          of_index = λ x d m b. elim (cases_eq x p) as (λ _. index (get_or rows (get_or new x 0) d) ≡ get_or indices x 0) [
            | inl e ↦ ap (λ n. index (get_or rows n d)) (ap (λ y. get_or new y 0) e ∙ here) ∙ ap index (row_is d) ∙ sym at ∙ ap (λ y. get_or indices y 0) (sym e)
            | inr o ↦ ap (λ n. index (get_or rows n d)) (other x o) ∙ h.of_index x d m (omega (arith, b, other x o))
          ];
          there = λ k q d b m e. elim (cases_lt k i) as (λ _. get_or new q 0 < length rows) [
            | inl early ↦ omega (arith, h.there k q d early m e, other q (before k q d early m e))
            | inr late ↦ omega (arith, l, here, ap (λ x. get_or new x 0) (last_place k q d b late m e))
          ];
          equal = λ k q d b m e. elim (cases_lt k i) as (λ _. AllZip same (cells (get_or rows (get_or new q 0) d)) (cells (get_or rows k d))) [
            | inl early ↦ subst (λ n. AllZip same (cells (get_or rows n d)) (cells (get_or rows k d))) (sym (other q (before k q d early m e))) (h.equal k q d early m e)
            | inr late ↦
                let now : get_or rows (get_or new q 0) d ≡ get_or rows k d =
                ap (λ n. get_or rows n d) (ap (λ x. get_or new x 0) (last_place k q d b late m e) ∙ here) ∙ row_is d ∙ sym (last_is k d b late) in
                subst (λ r. AllZip same (cells r) (cells (get_or rows k d))) (sym now) (itself (cells (get_or rows k d)))
          ];
        }

    module _ (first : R) (known : get_or places p 0 < length rows) (of : first ≡ get_or rows (get_or places p 0) first) where
      first_is : (d : R) → get_or rows (get_or places p 0) d ≡ first
      first_is d = get_or_default rows (get_or places p 0) d first known ∙ sym of

      -- a row that has the cells of one of its index
      pub places-known : AllZip same (cells first) (cells row) → ArePlacesByIndex index cells indices rows (i + 1) places
      places-known equal = grind (arith, cases_lt, last_place, first_is, last_is)

      -- a row that has other cells
      pub unequal_at : ¬ (AllZip same (cells first) (cells row)) → HaveUnequalCells index cells rows
      unequal_at apart = (i, row, l, sym is, (get_or places p 0, first, known, sym of, (ap index (sym (first_is row)) ∙ h.of_index p row inside known ∙ at, apart)))

  -- with all rows, no two of one index are unequal
  pub none_unequal : (places : List ℕ) → ArePlacesByIndex index cells indices rows (length rows) places → All (λ row. Contains indices (index row)) rows → ¬ (HaveUnequalCells index cells rows)
  none_unequal places h there (k, r, l, is, (m, t, b, at, (e, apart))) =
      let place : Contains indices (index (get_or rows k r)) = there k r l in
      let p : ℕ = place.0 in
      let inside : p < length indices = place.1 in
      let of : get_or indices p 0 ≡ index r = get_or_default indices p 0 (index (get_or rows k r)) inside ∙ place.2 ∙ ap index is in
      let f : R = get_or rows (get_or places p 0) r in
      let of_r : AllZip same (cells f) (cells r) = subst (λ (u : R). AllZip same (cells f) (cells u)) is (h.equal k p r l inside (of ∙ ap index (sym is))) in
      let t_is : get_or rows m r ≡ t = get_or_default rows m r t b ∙ at in
      let of_t : AllZip same (cells f) (cells t) =
      subst (λ (u : R). AllZip same (cells f) (cells u)) t_is (h.equal m p r b inside (of ∙ sym e ∙ ap index (sym t_is))) in
      apart (same_as_one (cells f) (cells t) (cells r) of_t of_r)
