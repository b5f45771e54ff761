use Rattle.std.proofs.Common.{◌≡◌, ◌∙◌, ◌+◌, suc, List, length, take, drop, sym, ap, subst, arith}
use Rattle.std.proofs.lemmas.List.{get_or_default, take_rest}
use Rattle.math_fields.specs.declared.goldilocks.F.{F}
use Rattle.math_fields.specs.Elements.{residue}
use Rattle.math_fields.proofs.ElementNumbers.{same_number}
use Rattle.math_restoring.specs.Restored.{item}
use Rattle.row_interpolation.specs.Weights.{AreOwnProducts, differences}
use Rattle.row_interpolation.proofs.Differences.{own-joined, own-more, own-none}
use Rattle.row_interpolation.proofs.weights.own_products.Goals as goal

pub loop-i-init : goal.loop-i-init
loop-i-init c = own-none c.args.points.now c.in_ok-out.out.items (ap length c.in_ok-out.ensures.items)

pub loop-i-preserved : goal.loop-i-preserved
loop-i-preserved c =
    let points : List F = c.args.points.now in
    let i = c.loop-i.i in
    let first = c.index-points-i.result in
    let second = c.index-points-i-in-loop-i.result in
    let p : F = item points i in
    let one : first ≡ p = c.index-points-i.is ∙ get_or_default points i first (residue 0) c.loop-i-test.true in
    let other : second ≡ p = c.index-points-i-in-loop-i.is ∙ get_or_default points i second (residue 0) c.loop-i-test.true in
    let before : c.product_of_differences-before.result ≡ differences p (take i points) = c.product_of_differences-before.ensures ∙ ap (λ x. differences x (take i points)) one in
    let after : c.product_of_differences-after.result ≡ differences p (drop (suc i) points) =
    c.product_of_differences-after.ensures ∙ ap (λ xs. differences second xs) (take_rest points (i + 1)) ∙ ap (λ n. differences second (drop n points)) (let e : i + 1 ≡ suc i = omega arith in e) ∙ ap (λ x. differences x (drop (suc i) points)) other in
    subst (AreOwnProducts points (i + 1)) (sym c.in_ok-push.ensures.items)
    (own-more points c.loop-i.out.items i c.mul.result (same_number _ _ c.mul.ensures ∙ own-joined points i p c.product_of_differences-before.result c.product_of_differences-after.result before after) c.loop-i.invariant)

pub returns : goal.returns
returns c =
    let all : c.loop-i.i ≡ length c.args.points.now = omega (arith, c.loop-i-test.false, c.loop-i.auto.i-end) in
    subst (λ n. AreOwnProducts c.args.points.now n c.loop-i.out.items) all c.loop-i.invariant
