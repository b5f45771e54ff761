use Rattle.std.proofs.Common.{◌≡◌, ◌∙◌, ℕ, ◌+◌, ◌-◌, ◌*◌, ◌<◌, ◌≤◌, List, length, take, drop, get_or, refl, sym, ap, arith}
use Rattle.std.proofs.lemmas.List.{length-drop, length-take-le}
use Rattle.std.proofs.lemmas.Nat.{row_fits}
use Rattle.math_theory.specs.Sums.{weighted_sum}
use Rattle.math_fields.specs.declared.goldilocks.F.{F}
use Rattle.math_fields.specs.Elements.{product, sum}
use Rattle.math_transforms.specs.DomainValues.{matrix_of}
use Rattle.math_transforms.specs.Matrices.{column_of}
use Rattle.math_transforms.proofs.MatrixRows.{cell-of_column, length-column}
use Rattle.math_shards.specs.Weights.{coefficient_of}
use Rattle.math_shards.proofs.PutCoefficients.{strip-before, strip-behind, strip-done}
use Rattle.math_splitting.proofs.SameCells.{nought}
use Rattle.math_shards.proofs.shards.weighing.put_strip.Goals as goal

pub loop-r-init : goal.loop-r-init
loop-r-init c = record { done = λ i k a b. absurd (omega arith); before = λ i k a b. refl; behind = λ i k a b l. refl }

pub loop-r-preserved : goal.loop-r-preserved
loop-r-preserved c =
    let shape = c.args.shape in
    let n : ℕ = shape.count in
    let width : ℕ = shape.width in
    let k : ℕ = c.args.k in
    let r : ℕ = c.loop-r.r in
    let before : r < n = c.loop-r-test.true in
    let start : List F = c.args.cells.now in
    let cells : List F = c.loop-r.cells in
    let strip : List F = c.read_strip.new.strip in
    let weights : List F = c.args.weights.now in
    let m = matrix_of n width start in
    let at : ℕ = r * width + k in
    let q : ℕ = at + 32 - at in
    let e : q ≡ 32 = omega arith in
    let size : length cells ≡ n * width = c.loop-r.auto.cells ∙ c.requires.size in
    let room : at + 32 ≤ length cells = omega (arith, row_fits r width n width before (omega arith), c.requires.within, size) in
    let part : length (take q (drop at cells)) ≡ q = length-take-le q (drop at cells) (omega (arith, e, room, length-drop at cells)) in
    let wide : length (take q (drop at cells)) ≡ 32 = part ∙ e in
    let row : List F = c.sum_columns.new.out in
    let long : length row ≡ q = c.sum_columns.auto.out ∙ part in
    let value : ℕ → ℕ → F = λ i j. coefficient_of weights m i (k + j) in
    let turned : (r + 1) * n - r * n ≡ n = grind arith in
    let high : r * n + n ≤ length weights = omega (arith, row_fits r n n n before (omega arith), c.requires.weights) in
    let tall : length (take ((r + 1) * n - r * n) (drop (r * n) weights)) ≡ n =
    ap (λ p. length (take p (drop (r * n) weights))) turned ∙ length-take-le n (drop (r * n) weights) (omega (arith, high, length-drop (r * n) weights)) in
    let is : (i : ℕ) → i < 32 → get_or row i nought ≡ value r i = λ i b.
    let column : List F = column_of nought m (k + i) in
    let inside : k + i < width = omega (arith, b, c.requires.within) in
    c.sum_columns.ensures i column (omega (arith, b, wide)) (length-column nought m (k + i) ∙ sym tall)
    (λ j d.
    let l : j < n = omega (arith, d, length-column nought m (k + i)) in
    cell-of_column nought m (k + i) j inside c.requires.size ∙ sym (c.read_strip.ensures j i l b) ∙ ap (λ p. get_or strip (j * p + i) nought) (sym wide))
    ∙ ap (λ p. weighted_sum nought sum product column (take p (drop (r * n) weights))) turned in
    record {
      done = strip-done n width k r q value start cells row e size before c.requires.within long is c.loop-r.invariant.done;
      before = strip-before n width k r q value start cells row e size before c.requires.within long is c.loop-r.invariant.before;
      behind = strip-behind n width k r q value start cells row e size before c.requires.within long is c.loop-r.invariant.behind;
    }

pub returns : goal.returns
returns c = grind arith
