-- Values of the polynomial that is restored from a column.
use Rattle.std.proofs.Common.{◌≡◌, ◌∙◌, inl, inr, ℕ, ◌+◌, ◌*◌, ◌<◌, ◌≤◌, ◌^◌, List, length, take, get_or, sym, ap, subst, arith}
use Rattle.std.specs.List.{All}
use Rattle.std.proofs.lemmas.Bool.{cases_lt}
use Rattle.std.proofs.lemmas.List.{get_or-take, get_or_past, length-take}
use Rattle.math_theory.specs.Coefficients.{HaveSameCoefficients}
use Rattle.math_fields.specs.declared.goldilocks.F.{F}
use Rattle.math_fields.specs.Elements.{number, residue, same}
use Rattle.math_theory.specs.BitReversal.{bit_reversed}
use Rattle.math_transforms.proofs.PresentIndices.{lg-only}
use Rattle.math_restoring.specs.Restored.{AreDistinct, FitsAt, item}
use Rattle.math_restoring.specs.Restorers.{indices_of}
use Rattle.math_values.proofs.ElementValues.{same_values}
use Rattle.row_interpolation.specs.declared.by_transforms.Transforms.{Transforms}
use Rattle.row_interpolation.specs.RowValues.{AreMade, IsValueThrough, value_at_index}
use Rattle.row_interpolation.specs.Transforms.{AreTransformsFor, AreValuesThrough}
use Rattle.row_interpolation.proofs.IndexPoints.{point, values-once}

-- the value of coefficients that fit values is that of each polynomial through these
pub value-through : (lg index : ℕ) (indices : List ℕ) (values : ℕ → F) (q : List F) (x : F) → lg ≤ 32 → AreDistinct indices × All (λ i. i < 2 ^ lg) indices → FitsAt lg indices values q
    → same x (value_at_index lg q index) → IsValueThrough lg indices values index x
value-through lg index indices values q x small are fits is p through =
    let n = length indices in
    let first : List F = take n q in
    let few : length first ≤ n = omega (arith, length-take n q) in
    let alike : HaveSameCoefficients same (residue 0) q first = λ i. elim (cases_lt i n) as (λ _. same (item q i) (item first i)) [
      | inl before ↦ ap number (sym (get_or-take n q i (residue 0) before))
      | inr past ↦ fits.few i past ∙ ap number (sym (get_or_past first i (residue 0) (omega (arith, few, past))))
    ] in
    let whole : (i : ℕ) → same (value_at_index lg q i) (value_at_index lg first i) = λ i. same_values (point lg i) q first alike in
    is ∙ whole index
    ∙ values-once lg (2 ^ lg) indices small (omega arith) are n first p (omega arith) few through.few
    (λ t l. sym (whole (get_or indices t 0)) ∙ fits.values t l ∙ through.values t l) index

-- the rows of a strip that stand at the targets, one after the other, are made of the rows in hand
pub made-by_transforms : (element : ℕ → ℕ → F) (total from cols : ℕ) (indices targets : List ℕ) (t : Transforms) (strip out : List F) → 1 ≤ total → AreTransformsFor total indices t
    → All (λ i. i < total) targets → AreValuesThrough element t from cols strip
    → ((j k : ℕ) → j < length targets → k < cols → item out (j * cols + k) ≡ item strip (bit_reversed t.lg (get_or targets j 0) * cols + k))
    → AreMade element total indices targets from cols out
made-by_transforms element total from cols indices targets t strip out some for below values taken lg next j c l m =
    let target : ℕ = get_or targets j 0 in
    let inside : target < 2 ^ t.lg = omega (arith, below j 0 l, for.domain.1) in
    subst (λ n. IsValueThrough n indices (λ s. element s (from + c)) target (item out (j * cols + c))) (lg-only total t.lg lg some for.domain next)
    (subst (λ xs. IsValueThrough t.lg xs (λ s. element s (from + c)) target (item out (j * cols + c))) for.sources
    (subst (IsValueThrough t.lg (indices_of t.restorer) (λ s. element s (from + c)) target) (sym (taken j c l m)) (values target c inside m)))
