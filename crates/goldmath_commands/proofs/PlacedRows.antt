-- Rows of a matrix that are put in the places of a vector of values.
use Rattle.std.proofs.Common.{◌≡◌, ◌≢◌, ℕ, ◌+◌, ◌<◌, ◌≤◌, ◌^◌, Bool, true, false, List, length, get_or, All, AllPairs, sym, refl, ◌∙◌, ap, subst, inl, inr, lit<, arith}
use Rattle.std.proofs.Math.Nat.{pow-le-pow_right}
use Rattle.std.proofs.lemmas.Bool.{cases_lt, cases_Bool}
use Rattle.std.proofs.lemmas.List.{length-set}
use Rattle.math_fields.specs.declared.goldilocks.F.{F}
use Rattle.math_fields.specs.Elements.{residue, same}
use Rattle.math_transforms.specs.Matrices.{MatrixOf, row_of, cell_of}
use Rattle.math_ntt.specs.Evaluations.{EvaluationsOf, IsFilledAt}
use Rattle.math_ntt.specs.MatrixPlaces.{IsFull}
use Rattle.math_ntt.proofs.MatrixPlaces.{rows_hold_cells, rows_are_filled_alone}
use Rattle.goldmath_commands.specs.Recoveries.{MarksFirst, HoldsRows}
use Rattle.goldmath_commands.proofs.MarkedRows.{marks_more, count_marked}

-- row n is not marked, where no earlier row is the same
unmarked : (rows : List ℕ) (n : ℕ) (marks : List Bool) → MarksFirst rows n marks → n < length rows → AllPairs (λ i j. i ≢ j) rows → get_or marks (get_or rows n 0) false ≡ false
unmarked rows n marks h l distinct = elim (cases_Bool (get_or marks (get_or rows n 0) false)) [
  | inl e ↦ let found = h.only (get_or rows n 0) e in absurd (distinct found.0 n 0 found.1 l found.2)
  | inr e ↦ e
]

-- one row more
pub placed_more : (lg : ℕ) (rows : List ℕ) (m : MatrixOf F) (n : ℕ) (v w : EvaluationsOf F) → HoldsRows lg rows m n v → n < length rows → length (row_of m n) ≡ m.cols
    → All (λ row. row < 2 ^ lg) rows → AllPairs (λ i j. i ≢ j) rows → IsFilledAt same v (get_or rows n 0) (row_of m n) w → HoldsRows lg rows m (n + 1) w
placed_more lg rows m n v w h l cols below distinct filled =
    let row : ℕ = get_or rows n 0 in
    let inside : row < 2 ^ lg = below n 0 l in
    let new : get_or v.filled row false ≡ false = unmarked rows n v.filled h.marks l distinct in
    let whole : IsFull v.matrix = rw (h.size.0, h.size.1) h.size.2 in
    let alone = rows_are_filled_alone same v w row (row_of m n) whole (omega (arith, h.size.0)) (omega (arith, h.size.1)) filled in
    record {
      size = (alone.1.size.0 ∙ h.size.0, alone.1.size.1 ∙ h.size.1, alone.1.size.2 ∙ rw (h.size.0, h.size.1) refl);
      places = rw filled.3 (length-set v.filled row true ∙ h.places);
      marks = rw filled.3 (marks_more rows n v.filled h.marks (omega (arith, h.places)));
      count = rw filled.3 (count_marked v.filled row n (omega (arith, h.places)) new h.count);
      cells = λ i k s t. elim (cases_lt i n) [
        | inl before ↦
            let other : get_or rows i 0 ≢ row = λ e. distinct i n 0 before l e in
            let there : get_or rows i 0 < 2 ^ lg = below i 0 (omega arith) in
            subst (λ x. same x (cell_of (residue 0) m i k))
            (sym (alone.1.others (residue 0) (get_or rows i 0) k (omega (arith, h.size.0)) (omega (arith, h.size.1)) (λ e _. other e))) (h.cells i k before t)
        | inr after ↦
            let e : i ≡ n = omega arith in
            subst (λ j. same (cell_of (residue 0) w.matrix (get_or rows j 0) k) (cell_of (residue 0) m j k)) (sym e)
            (alone.0 k (residue 0) (omega arith) ∙ ap (λ x. x.value) (rows_hold_cells m n k (residue 0) t))
      ];
    }

-- the domain of at most 2^24 points is there
pub has_domain : (lg rows : ℕ) → lg ≤ 24 → rows ≡ 2 ^ lg → (l : ℕ) → rows ≡ 2 ^ l → l ≤ 32
has_domain lg rows small e l f = elim (cases_lt 32 l) [
  | inl great ↦
      let first : 32 ≤ l = omega (arith, great) in
      let less : 2 ^ lg ≤ 2 ^ 24 = pow-le-pow_right (lit< tt) small in
      let more : 2 ^ 32 ≤ 2 ^ l = pow-le-pow_right (lit< tt) first in
      absurd (omega arith)
  | inr good ↦ good
]
