-- Rows of values that are filled by the cells of shards, one shard after the other.
use Rattle.std.proofs.Common.{◌≡◌, ◌≢◌, ℕ, ◌+◌, ◌<◌, ◌≤◌, ◌^◌, ◌==◌, ◌||◌, Bool, true, false, List, length, take, replicate, get_or, All, sym, refl, ◌∙◌, ap, subst, inl, inr, arith}
use Rattle.std.specs.List.{AllZip}
use Rattle.std.proofs.Math.Bool.{or-true, or-false}
use Rattle.std.proofs.lemmas.Bool.{cases_lt, cases_eq, cases_Bool, eq-eqb, eqb-true}
use Rattle.std.proofs.lemmas.List.{length-set, length-take-le, get_or-set_same, get_or-set_other, get_or-take, get_or-replicate, get_or_default, length-replicate, take_all}
use Rattle.std.proofs.lemmas.List.Elements.{AllZip-get_or, length_all_zip}
use Rattle.std.proofs.lemmas.List.Folds.{list_any_more, list_any_at, Any-from_list_any}
use Rattle.math_fields.specs.declared.goldilocks.F.{F}
use Rattle.math_fields.specs.Elements.{same}
use Rattle.math_transforms.specs.Matrices.{IsOfSize, row_of, cell_of}
use Rattle.math_ntt.specs.Evaluations.{EvaluationsOf, IsFilledAt}
use Rattle.math_ntt.specs.MatrixPlaces.{IsFull}
use Rattle.math_ntt.proofs.MatrixPlaces.{rows_are_full, rows_hold_cells, rows_are_filled_alone}
use Rattle.math_splitting.specs.declared.shards.Shard.{Shard}
use Rattle.math_splitting.specs.Shards.{has_index}
use Rattle.math_values.proofs.ElementRing.{same_are_equal}
use Rattle.math_splitting.proofs.SameCells.{nought, same_by_items}
use Rattle.math_shards.specs.Joining.{IsSound, HaveConflict, HoldsShards}

-- where the row of the shard's index is filled, it holds the cells of the shard
abbrev pub HoldsIfFilled : EvaluationsOf F → Shard → Type 0
HoldsIfFilled e s = get_or e.filled s.index false ≡ true → AllZip same (row_of e.matrix s.index) s.cells.items

-- the row of the shard's index is filled, and not with the cells of the shard
abbrev pub HoldsOthers : EvaluationsOf F → Shard → Type 0
HoldsOthers e s = (get_or e.filled s.index false ≡ true) × ¬ (AllZip same (row_of e.matrix s.index) s.cells.items)

-- the cells of the first n shards stand in the rows of their indices, and exactly these rows are filled
pub record HoldsFirst (lg width : ℕ) (shards : List Shard) (n : ℕ) (e : EvaluationsOf F) : Type 0 where
  pub size : IsOfSize e.matrix (2 ^ lg) width
  pub places : length e.filled ≡ 2 ^ lg
  pub marks : (j : ℕ) → j < 2 ^ lg → get_or e.filled j false ≡ has_index (take n shards) j
  pub cells : (p : ℕ) (d : Shard) → p < n → (k : ℕ) → k < width → same (cell_of nought e.matrix (get_or shards p d).index k) (get_or (get_or shards p d).cells.items k nought)

abbrev test : ℕ → Shard → Bool
test i s = s.index == i

-- one shard more: its index is among the indices
index_here : (shards : List Shard) (n : ℕ) (s : Shard) → n < length shards → s ≡ get_or shards n s → has_index (take (n + 1) shards) s.index ≡ true
index_here shards n s l e =
    list_any_more (test s.index) shards n s l
    ∙ ap (λ b. has_index (take n shards) s.index || b) (ap (λ (t : Shard). t.index == s.index) (sym e) ∙ eq-eqb s.index s.index refl)
    ∙ or-true (has_index (take n shards) s.index)

-- and no other index is new
index_elsewhere : (shards : List Shard) (n : ℕ) (s : Shard) (j : ℕ) → n < length shards → s ≡ get_or shards n s → j ≢ s.index → has_index (take (n + 1) shards) j ≡ has_index (take n shards) j
index_elsewhere shards n s j l e apart = elim (cases_Bool (s.index == j)) [
  | inl same_index ↦ absurd (apart (sym (eqb-true s.index j same_index)))
  | inr other ↦
      list_any_more (test j) shards n s l
      ∙ ap (λ b. has_index (take n shards) j || b) (ap (λ (t : Shard). t.index == j) (sym e) ∙ other)
      ∙ or-false (has_index (take n shards) j)
]

-- the index of an earlier shard is among the indices
index_before : (shards : List Shard) (n p : ℕ) (d : Shard) → p < n → n ≤ length shards → has_index (take n shards) (get_or shards p d).index ≡ true
index_before shards n p d l m = grind (arith, list_any_at, length-take-le, get_or-take, eq-eqb)

module _ (lg width : ℕ) (first : Shard) (shards : List Shard) (domain : first.total ≤ 2 ^ lg) (wide : length first.cells.items ≡ width) (sound : All (IsSound first) shards) where
  below : (p : ℕ) (d : Shard) → p < length shards → (get_or shards p d).index < 2 ^ lg
  below p d l = omega (arith, (sound p d l).1, (sound p d l).0.most, domain)

  full : (p : ℕ) (d : Shard) → p < length shards → length (get_or shards p d).cells.items ≡ width
  full p d l = (sound p d l).0.count ∙ wide

  -- no shard yet, and no row that is filled
  pub holds_none : (e : EvaluationsOf F) → IsOfSize e.matrix (2 ^ lg) width → e.filled ≡ replicate (2 ^ lg) false → HoldsFirst lg width shards 0 e
  holds_none e size filled = grind (arith, length-replicate, get_or-replicate)

  -- one shard more
  pub holds_more : (n : ℕ) (s : Shard) (e f : EvaluationsOf F) → HoldsFirst lg width shards n e → n < length shards → s ≡ get_or shards n s
      → HoldsIfFilled e s → IsFilledAt same e s.index s.cells.items f → HoldsFirst lg width shards (n + 1) f
  holds_more n s e f h l is agrees filled =
      let inside : s.index < 2 ^ lg = subst (λ (t : Shard). t.index < 2 ^ lg) (sym is) (below n s l) in
      let count : length s.cells.items ≡ width = subst (λ (t : Shard). length t.cells.items ≡ width) (sym is) (full n s l) in
      let whole : IsFull e.matrix = rw (h.size.0, h.size.1) h.size.2 in
      let alone = rows_are_filled_alone same e f s.index s.cells.items whole (omega (arith, h.size.0, inside)) (omega (arith, h.size.1, count)) filled in
      let here : (k : ℕ) → k < width → same (cell_of nought f.matrix s.index k) (get_or s.cells.items k nought) = λ k t. alone.0 k nought (omega (arith, count, t)) in
      record {
        size = (alone.1.size.0 ∙ h.size.0, alone.1.size.1 ∙ h.size.1, alone.1.size.2 ∙ rw (h.size.0, h.size.1) refl);
        places = rw filled.3 (length-set e.filled s.index true ∙ h.places);
        marks = λ j b. elim (cases_eq j s.index) [
          | inl eq ↦ rw (filled.3, eq) (get_or-set_same e.filled s.index true false (omega (arith, h.places, inside)) ∙ sym (index_here shards n s l is))
          | inr apart ↦ rw filled.3 (get_or-set_other e.filled s.index j true false apart ∙ h.marks j b ∙ sym (index_elsewhere shards n s j l is apart))
        ];
        cells = λ p d b k t. elim (cases_lt p n) [
          | inl before ↦ elim (cases_eq (get_or shards p d).index s.index) [
            | inl eq ↦
                let marked : get_or e.filled s.index false ≡ true = h.marks s.index inside ∙ ap (has_index (take n shards)) (sym eq) ∙ index_before shards n p d before (omega (arith, l)) in
                let row : same (cell_of nought e.matrix s.index k) (get_or s.cells.items k nought) =
                ap (λ x. x.value) (sym (rows_hold_cells e.matrix s.index k nought (omega (arith, h.size.1, t))))
                ∙ AllZip-get_or same (row_of e.matrix s.index) s.cells.items k nought nought (agrees marked)
                (omega (arith, t, count, length_all_zip same (row_of e.matrix s.index) s.cells.items (agrees marked))) in
                ap (λ i. (cell_of nought f.matrix i k).value) eq ∙ here k t ∙ sym row ∙ ap (λ i. (cell_of nought e.matrix i k).value) (sym eq) ∙ h.cells p d before k t
            | inr apart ↦
                ap (λ x. x.value) (alone.1.others nought (get_or shards p d).index k (omega (arith, h.size.0, below p d (omega (arith, before, l)))) (omega (arith, h.size.1, t)) (λ q _. apart q))
                ∙ h.cells p d before k t
          ]
          | inr after ↦
              let q : p ≡ n = omega (arith, after, b) in
              let at : get_or shards p d ≡ s = ap (λ i. get_or shards i d) q ∙ get_or_default shards n d s l ∙ sym is in
              subst (λ (u : Shard). same (cell_of nought f.matrix u.index k) (get_or u.cells.items k nought)) (sym at) (here k t)
        ];
      }

  -- the row of an earlier shard holds its cells
  row_at : (n : ℕ) (e : EvaluationsOf F) → HoldsFirst lg width shards n e → n ≤ length shards → (p : ℕ) (d : Shard) → p < n
      → AllZip same (row_of e.matrix (get_or shards p d).index) (get_or shards p d).cells.items
  row_at n e h m p d l = grind (arith, rows_are_full, same_by_items, rows_hold_cells)

  -- all shards
  pub holds_all : (e : EvaluationsOf F) → HoldsFirst lg width shards (length shards) e → HoldsShards lg width shards e
  holds_all e h = grind (arith, take_all, row_at)

  -- a shard whose row is filled with other cells has the index of an earlier one
  pub conflict_at : (n : ℕ) (s : Shard) (e : EvaluationsOf F) → HoldsFirst lg width shards n e → n < length shards → s ≡ get_or shards n s
      → HoldsOthers e s → HaveConflict shards
  conflict_at n s e h l is others =
      let inside : s.index < 2 ^ lg = subst (λ (t : Shard). t.index < 2 ^ lg) (sym is) (below n s l) in
      let before = Any-from_list_any (test s.index) (take n shards) (sym (h.marks s.index inside) ∙ others.0) in
      let p : ℕ = before.0 in
      let t : Shard = before.1 in
      let early : p < n = omega (arith, before.2, length-take-le n shards (omega (arith, l))) in
      let at : get_or shards p t ≡ t = sym (get_or-take n shards p t early) ∙ before.3 in
      let eq : t.index ≡ s.index = eqb-true t.index s.index before.4 in
      let row : AllZip same (row_of e.matrix t.index) t.cells.items = subst (λ (u : Shard). AllZip same (row_of e.matrix u.index) u.cells.items) at (row_at n e h (omega (arith, l)) p t early) in
      let of_both : AllZip same t.cells.items s.cells.items → AllZip same (row_of e.matrix t.index) s.cells.items =
      λ equal. subst (AllZip same (row_of e.matrix t.index)) (same_are_equal t.cells.items s.cells.items equal) row in
      (n, s, l, sym is, (p, t, omega (arith, early, l), at, (eq, λ equal. others.1 (subst (λ i. AllZip same (row_of e.matrix i) s.cells.items) eq (of_both equal)))))
