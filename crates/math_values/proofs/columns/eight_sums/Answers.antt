use Rattle.std.proofs.Common.{◌≡◌, ◌∙◌, ◌+◌, ◌*◌, ◌∷◌, ◌<◌, ◌%◌, ℕ, [], length, drop, get_or, ap, ap₂, sym, arith}
use Rattle.std.proofs.lemmas.List.{drop_all, drop_more}
use Rattle.std.proofs.lemmas.Simd.{get_or-replicate}
use Rattle.math_numbers.specs.Goldilocks.{P}
use Rattle.math_theory.specs.Sums.{weighted_sum}
use Rattle.math_fields.specs.declared.goldilocks.F.{F}
use Rattle.math_values.specs.ColumnSums.{from_parts}
use Rattle.math_fields.specs.Elements.{number, product, residue, sum}
use Rattle.math_values.proofs.ColumnParts.{parts-more, product-taken}
use Rattle.math_values.proofs.columns.eight_sums.Goals as goal

pub loop-r-init : goal.loop-r-init
loop-r-init c = record {
  few = λ j l. let e = get_or-replicate {A = ℕ} 8 j 0 0 l in (omega (arith, e), omega (arith, e), omega (arith, e), omega (arith, e));
  sums = λ column j l long is.
      let e = get_or-replicate {A = ℕ} 8 j 0 0 l in
      omega (arith, e, (weighted_sum (residue 0) sum product column c.args.weights.now).below);
}

pub loop-r-preserved : goal.loop-r-preserved
loop-r-preserved c =
    let rows = c.args.rows.now in
    let weights = c.args.weights.now in
    let r : ℕ = c.loop-r.r in
    let before : r < length weights = c.loop-r-test.true in
    let w : F = c.index-weights-r.result in
    let more = λ (j : ℕ) (l : j < 8).
    parts-more r (get_or c.loop-r.a j 0) (get_or c.loop-r.b j 0) (get_or c.loop-r.c j 0) (get_or c.loop-r.d j 0)
    (get_or c.parts.result.0 j 0) (get_or c.parts.result.1 j 0) (get_or c.parts.result.2 j 0) (get_or c.parts.result.3 j 0)
    (get_or c.plus-a.result j 0) (get_or c.plus-b.result j 0) (get_or c.plus-c.result j 0) (get_or c.plus-d.result j 0)
    (omega (arith, before, c.requires.few)) (c.loop-r.invariant.few j l) (c.parts.ensures.few j l)
    (c.plus-a.ensures j l) (c.plus-b.ensures j l) (c.plus-c.ensures j l) (c.plus-d.ensures j l) in
    record {
      few = λ j l. (more j l).0;
      sums = λ column j l long is.
          let within : r < length column = omega (arith, before, long) in
          let cell : F = get_or column r (residue 0) in
          let x : ℕ = get_or c.load.result j 0 in
          let rest : F = weighted_sum (residue 0) sum product (drop (r + 1) column) (drop (r + 1) weights) in
          let whole : ℕ = from_parts (get_or c.loop-r.a j 0) (get_or c.loop-r.b j 0) (get_or c.loop-r.c j 0) (get_or c.loop-r.d j 0) in
          let place : r * c.args.cols + (c.args.i + j) ≡ r * c.args.cols + c.args.i + j = omega arith in
          let cell_is : number cell ≡ x = ap number (is r within ∙ ap (λ p. get_or rows p (residue 0)) place) ∙ sym (c.load.ensures.lanes (residue 0) j l) in
          let left : weighted_sum (residue 0) sum product (drop r column) (drop r weights) ≡ sum (product cell w) rest =
          ap₂ (weighted_sum (residue 0) sum product) (drop_more column r (residue 0) within)
          (drop_more weights r w before ∙ ap (λ v. v ∷ drop (r + 1) weights) (sym c.index-weights-r.is)) in
          ap (λ v. (v + number rest) % P) ((more j l).1 ∙ ap (λ v. whole + v) (c.parts.ensures.product j l))
          ∙ sym (product-taken whole (x * number w) (number rest))
          ∙ ap (λ v. (whole + v) % P) (sym (ap number left ∙ ap (λ y. (y * number w % P + number rest) % P) cell_is))
          ∙ c.loop-r.invariant.sums column j l long is;
    }

pub returns-clause-lanes : goal.returns-clause-lanes
returns-clause-lanes c = λ column j l long is.
    let weights = c.args.weights.now in
    let r : ℕ = c.loop-r.r in
    let none : drop r column ≡ [] = drop_all r column (omega (arith, long, c.loop-r-test.false)) in
    let whole : ℕ = from_parts (get_or c.loop-r.a j 0) (get_or c.loop-r.b j 0) (get_or c.loop-r.c j 0) (get_or c.loop-r.d j 0) in
    c.join_parts.ensures.lanes j l
    ∙ sym (ap (λ xs. (whole + number (weighted_sum (residue 0) sum product xs (drop r weights))) % P) none ∙ omega arith)
    ∙ c.loop-r.invariant.sums column j l long is
