use Rattle.std.proofs.Common.{◌∙◌, ◌<◌, ap, length, Some, arith}
use Rattle.math_poly.proofs.GeometricItems.{gives_power}
use Rattle.math_poly.proofs.AddedTerms.{added-none, added-more, added-endless, added-all}
use Rattle.math_poly.proofs.poly.evaluation.add_powers.Goals as goal
use Rattle.math_poly.proofs.poly.evaluation.add_powers.Goals.{in-Some+in_ok-term+in_ok-add_assign, in_default}

pub loop-total-init : goal.loop-total-init
loop-total-init g c =
    let R = g.met.R in
    added-none R.Object.equality R.Additive.group g.R.Multiplicative.product g.R.Ring.one c.args.shift c.args.base.now (gives_power g.R.Object.same g.R.Multiplicative.product) c.powers-terms.result
    c.powers-terms.ensures c.args.sums.now

pub loop-total-preserved : goal.loop-total-preserved
loop-total-preserved g c =
    let R = g.met.R in
    let steps = gives_power g.R.Object.same g.R.Multiplicative.product in
    let within : c.loop-total.total-index < length c.loop-total.sums = omega arith in
    elim c.match-next.branch [
      | in-Some+in_ok-term+in_ok-add_assign w ↦
          added-more R.Object.equality R.Additive.group g.R.Multiplicative.product g.R.Ring.one c.args.shift c.args.base.now steps c.powers-terms.result c.powers-terms.ensures _ _ _ _ _ _ _
          c.total-item.result _ _ c.loop-total.invariant within c.next.ensures.steps
          (w.in-Some.is ∙ ap Some w.in_ok-term.was) w.in_ok-add_assign.ensures.ok w.sums-is
      | in_default w ↦ absurd (added-endless R.Object.equality R.Additive.group g.R.Multiplicative.product g.R.Ring.one c.args.shift c.args.base.now steps c.powers-terms.result c.powers-terms.ensures
          c.loop-total.terms c.next.new.self _ _ _ _ c.loop-total.invariant c.next.ensures.steps w.in_default.is)
    ]

pub returns : goal.returns
returns g c =
    let R = g.met.R in
    added-all R.Object.equality R.Additive.group g.R.Multiplicative.product g.R.Ring.one c.args.shift c.args.base.now (gives_power g.R.Object.same g.R.Multiplicative.product) c.powers-terms.result
    c.powers-terms.ensures _ _ _ _ c.loop-total.invariant (omega arith)
