use Rattle.row_interpolation.proofs.weights.weights_for.Goals as goal
use Rattle.std.proofs.Common.{◌≡◌, ◌∙◌, ◌-◌, ap, sym, subst, arith}
use Rattle.std.specs.Int.Count.{count_leading_zeros}
use Rattle.std.specs.Map.{keys_of}
use Rattle.math_theory.specs.Powers.{power}
use Rattle.math_fields.specs.Elements.{goldilocks, product, residue, root_of}
use Rattle.math_base.specs.Polynomials.{AreWeightsAt}
use Rattle.math_codec.proofs.ItemsSoFar.{vec_items}
use Rattle.math_transforms.specs.RootWeights.{AreIndicesBelow, powers_at}
use Rattle.math_transforms.proofs.PresentIndices.{indices-given, lg-of_total, lg-only}

pub lagrange_coefficients_at-requires-clause-domain : goal.lagrange_coefficients_at-requires-clause-domain
lagrange_coefficients_at-requires-clause-domain c = λ lg h.
    let n = c.in-Some.total.value in
    let found : lg ≡ 32 - count_leading_zeros 32 (n - 1) = lg-only n lg (32 - count_leading_zeros 32 (n - 1)) (omega arith) h (lg-of_total n (omega arith) (omega arith)) in
    omega (arith, found)

pub returns : goal.returns
returns c =
    let total = c.args.total in
    let pairs = c.in_ok-found.found.items in
    let found = rw c.in-Some.ensures at c.in_ok-found.ensures in
    let q = found.indices in
    let copies : q.1 ≡ c.args.indices.now = vec_items q.0 q.1 c.in_ok-given.given.items q.3 q.2.0 (q.2.1 ∙ c.in_ok-given.given.ok.0) ∙ c.in_ok-given.ensures.items in
    let h : AreIndicesBelow total c.args.indices.now (keys_of pairs) = subst (λ xs. AreIndicesBelow total xs (keys_of pairs)) copies q.4 in
    let keys : keys_of pairs ≡ c.args.indices.now = indices-given total c.args.indices.now (keys_of pairs) c.requires.rising h in
    λ lg next.
    let same : c.lg_above.result ≡ lg = lg-only total c.lg_above.result lg c.requires.some c.lg_above.ensures.value next in
    let point : c.point_of-x.result ≡ power (residue 1) product (root_of lg) c.args.index = c.point_of-x.ensures ∙ ap (λ n. power (residue 1) product (root_of n) c.args.index) same in
    subst (λ x. AreWeightsAt goldilocks x (powers_at goldilocks (root_of lg) c.args.indices.now) c.in_ok-found-2.found.items) point
    (subst (λ is. AreWeightsAt goldilocks c.point_of-x.result (powers_at goldilocks (root_of lg) is) c.in_ok-found-2.found.items) keys
    (subst (AreWeightsAt goldilocks c.point_of-x.result (powers_at goldilocks (root_of lg) (keys_of pairs))) (sym c.in_ok-found-2.ensures)
    (found.weights lg next)))
