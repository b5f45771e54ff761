use Rattle.std.proofs.Common.{◌≡◌, length}
use Rattle.std.specs.List.{AllZip}
use Rattle.math_theory.specs.Domains.{coset}
use Rattle.math_theory.proofs.polynomials.WeightedPowers.{weighted_sum-powers}
use Rattle.math_poly.proofs.poly.Poly.eval_msm.Goals as goal

pub returns : goal.returns
returns g c =
    let K = g.met.K in
    let R = g.met.R in
    let E = K.Object.equality in
    let p = c.args.self.now in
    let points : c.deref.result.now ≡ p = cc in
    let scalars : c.deref-2.result.now ≡ c.in_ok-weights.weights.items = cc in
    let count : c.len.result ≡ length p = cc in
    let powers : AllZip g.R.Object.same c.in_ok-weights.weights.items (coset g.R.Ring.one g.R.Multiplicative.product c.in_ok-one.one c.args.r.now (length p)) = rw (← count)
    c.in_ok-weights.ensures.powers in
    E.transitive _ _ _ (rw (points, scalars) at c.in_ok-out.ensures.ok)
    (weighted_sum-powers E K.Additive.group K.Space.spans R.Object.equality R.Multiplicative.commutes c.in_ok-one.one c.args.r.now c.in_ok-one.ensures.ok p c.in_ok-weights.weights.items powers)
