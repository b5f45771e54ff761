use Rattle.std.proofs.Common.{◌≡◌, ◌∙◌, ◌+◌, ◌<◌, ℕ, List, length, sym, ap, ap₂, subst, arith}
use Rattle.std.proofs.lemmas.List.{get_or_default, length_push}
use Rattle.math_fields.specs.declared.goldilocks.F.{F}
use Rattle.math_fields.specs.Elements.{negative, product, residue, sum}
use Rattle.math_fields.proofs.ElementNumbers.{same_number}
use Rattle.math_restoring.specs.Restored.{item}
use Rattle.row_interpolation.proofs.Differences.{pushed-more}
use Rattle.row_interpolation.proofs.weights.divisors.Goals as goal

pub loop-i-preserved : goal.loop-i-preserved
loop-i-preserved c =
    let x : F = c.args.x in
    let points : List F = c.args.points.now in
    let own : List F = c.args.own.now in
    let i : ℕ = c.loop-i.i in
    let p = c.index-points-i.result in
    let o = c.index-own-i.result in
    let value : ℕ → F = λ k. product (sum x (negative (item points k))) (item own k) in
    let point : p ≡ item points i = c.index-points-i.is ∙ get_or_default points i p (residue 0) c.loop-i-test.true in
    let factor : o ≡ item own i = c.index-own-i.is ∙ get_or_default own i o (residue 0) (omega (arith, c.loop-i-test.true, c.requires)) in
    let here : c.mul.result ≡ value i = same_number _ _ c.mul.ensures ∙ ap₂ product (same_number c.difference.result (sum x (negative p)) c.difference.ensures ∙ ap (λ y. sum x (negative y)) point) factor in
    record {
      count = ap length c.in_ok-push.ensures.items ∙ length_push c.loop-i.out.items c.mul.result ∙ ap (λ n. n + 1) c.loop-i.invariant.count;
      each = subst (λ (xs : List F). (k : ℕ) → k < i + 1 → item xs k ≡ value k) (sym c.in_ok-push.ensures.items)
          (pushed-more (residue 0) value c.loop-i.out.items i c.mul.result c.loop-i.invariant.count here c.loop-i.invariant.each);
    }
