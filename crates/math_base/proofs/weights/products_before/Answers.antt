use Rattle.std.proofs.Common.{◌++◌, [], ◌∷◌, ◌≡◌, take, arith}
use Rattle.std.proofs.lemmas.List.{length-append}
use Rattle.math_theory.specs.Sums.{total}
use Rattle.math_base.proofs.PlaceByPlace.{each_place_next}
use Rattle.math_theory.proofs.interpolation.SharedQuotients.{before-next}
use Rattle.math_base.proofs.weights.products_before.Goals as goal

pub loop-factor-preserved : goal.loop-factor-preserved
loop-factor-preserved g c =
    let R = g.met.R in
    let out = c.loop-factor.out.items in
    let before = c.in_ok-before.before in
    let pushed : c.push.new.self.items ≡ out ++ (before ∷ []) = c.in_ok-push.ensures.items in
    record {
      count = rw pushed (omega (arith, length-append out (before ∷ []), c.loop-factor.invariant.count));
      before = rw pushed
          (each_place_next g.R.Additive.zero (λ k a. g.R.Object.same a (total g.R.Ring.one g.R.Multiplicative.product (take k c.args.factors.now))) out c.loop-factor.factor-index before
          c.loop-factor.invariant.count
          c.loop-factor.invariant.before (R.Object.equality.transitive _ _ _ c.in_ok-before.ensures.ok c.loop-factor.invariant.all));
      all = before-next R.Object.equality R.Additive.group R.Multiplicative.commutes R.Ring.ring c.loop-factor.all c.mul_assign.new.self c.factor-item.result c.args.factors.now
          c.loop-factor.factor-index
          c.loop-factor-test.true c.factor-item.is c.loop-factor.invariant.all c.in_ok-mul_assign.ensures.ok;
    }
