use Rattle.std.proofs.Common.{◌≡◌, ◌++◌, [], ◌∷◌, subst, take}
use Rattle.std.specs.List.{AllZip}
use Rattle.std.proofs.lemmas.List.{take_all}
use Rattle.math_theory.specs.Interpolation.{AreApart}
use Rattle.math_base.specs.Polynomials.{AreWeightsAt}
use Rattle.math_base.proofs.Members.{ring_members}
use Rattle.shared_secret.proofs.CombinedShares.{alike_next}
use Rattle.shared_secret.proofs.WeighedShares.{apart-take}
use Rattle.shared_secret.proofs.weighing.weigh_points.Goals as goal

pub loop-x-preserved : goal.loop-x-preserved
loop-x-preserved g c = λ apart.
    let R = ring_members g.F.Multiplicative.product g.F.Debug.debug_output g.F.Object.same g.F.Object.NEVER_REFUSES g.F.Additive.zero g.F.Additive.sum g.F.Additive.negative g.F.Ring.one in
    let pushed : c.push.new.self.items ≡ c.loop-x.further.items ++ (c.in_ok-weights_at.field-0 ∷ []) = c.in_ok-push.ensures.items in
    rw pushed (alike_next (λ x w. AreWeightsAt R x c.split_at.result.0.now w.items) c.split_at.result.1.now c.loop-x.further.items c.loop-x.x-index c.x-item.result c.in_ok-weights_at.field-0
    c.loop-x-test.true c.x-item.is (c.loop-x.invariant apart) (c.in_ok-weights_at.ensures.weights apart))

pub returns : goal.returns
returns g c =
    let apart = c.requires.apart in
    let R = ring_members g.F.Multiplicative.product g.F.Debug.debug_output g.F.Object.same g.F.Object.NEVER_REFUSES g.F.Additive.zero g.F.Additive.sum g.F.Additive.negative g.F.Ring.one in
    let F = g.met.F in
    let first = c.split_at.result.0.now in
    let others = c.split_at.result.1.now in
    let front : first ≡ take c.args.t c.args.points.now = c.split_at.ensures.front in
    let distinct : AreApart R.same first = rw front (apart-take R.same c.args.t c.args.points.now c.requires.enough apart) in
    let further : AllZip (λ x w. AreWeightsAt R x first w.items) others c.loop-x.further.items =
    subst (λ xs. AllZip (λ x w. AreWeightsAt R x first w.items) xs c.loop-x.further.items) (take_all c.loop-x.x-index others c.loop-x-test.false) (c.loop-x.invariant distinct) in
    record {
      secret = subst (λ xs. AreWeightsAt R R.zero xs c.in_ok-secret.secret.items) front
          (c.in_ok-secret.ensures distinct);
      further = rw (front, c.split_at.ensures.back) at further;
    }
