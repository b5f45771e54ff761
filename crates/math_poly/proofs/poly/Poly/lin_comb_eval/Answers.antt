use Rattle.std.proofs.Common.{◌≡◌, ◌∙◌, ◌++◌, length, take, drop, sym, ap}
use Rattle.std.specs.List.{AllZip}
use Rattle.math_theory.specs.Domains.{coset}
use Rattle.math_poly.proofs.CombinationSteps.{combination-first, combination-next, combination-all}
use Rattle.math_base.proofs.WholeWrites.{take-written}
use Rattle.math_poly.proofs.poly.Poly.lin_comb_eval.Goals as goal

pub loop-pair-init : goal.loop-pair-init
loop-pair-init g c =
    let K = g.met.K in
    let R = g.met.R in
    let p = c.args.self.now in
    let weights = c.in_ok-weights.weights.items in
    let count : c.len.result ≡ length p = cc in
    let powers : AllZip g.R.Object.same weights (coset g.R.Ring.one g.R.Multiplicative.product c.in_ok-weight.weight c.in-Some.first.now.1 (length p)) = rw (← count) c.in_ok-weights.ensures.powers in
    record {
      count = c.in_ok-weights.ensures.count ∙ count;
      whole = combination-first K.Object.equality K.Additive.group K.Space.spans R.Object.equality R.Multiplicative.commutes p c.args.pairs.now c.in-Some.rest.now c.in-Some.first.now
          c.in_ok-weight.weight weights c.in-Some.ensures.cases.0 c.in_ok-weight.ensures.ok powers;
    }

pub loop-pair-preserved : goal.loop-pair-preserved
loop-pair-preserved g c =
    let K = g.met.K in
    let R = g.met.R in
    let p = c.args.self.now in
    let old = c.loop-pair.weights.items in
    let new = c.add_powers.new.sums in
    let kept : length new ≡ length old = c.add_powers.auto.sums ∙ ap length c.deref_mut.ensures.value in
    let written : take c.loop-pair.weights.len (new ++ drop (length new) old) ≡ new = take-written c.loop-pair.weights.len old new c.loop-pair.weights.ok.0 kept in
    let sums = rw c.deref_mut.ensures.value at c.in_ok-add_powers.ensures in
    rw written record {
      count = kept ∙ c.loop-pair.invariant.count;
      whole = combination-next K.Object.equality K.Additive.group K.Space.spans R.Object.equality R.Multiplicative.commutes p c.in-Some.rest.now c.loop-pair.pair-index _ c.pair-item.result
          c.in_ok-weight-2.weight old new _ c.loop-pair-test.true c.pair-item.is c.in_ok-weight-2.ensures.ok (sym c.loop-pair.invariant.count) sums c.loop-pair.invariant.whole;
    }

pub returns : goal.returns
returns g c =
    let K = g.met.K in
    let R = g.met.R in
    let E = K.Object.equality in
    let p = c.args.self.now in
    let weights = c.loop-pair.weights.items in
    let points : c.deref.result.now ≡ p = cc in
    let scalars : c.deref-2.result.now ≡ weights = cc in
    E.transitive _ _ _ (rw (points, scalars) at c.in_ok-out.ensures.ok)
    (combination-all E K.Additive.group K.Space.spans R.Object.equality R.Multiplicative.commutes p c.in-Some.rest.now c.loop-pair.pair-index weights _ c.loop-pair-test.false
    c.loop-pair.invariant.whole)
