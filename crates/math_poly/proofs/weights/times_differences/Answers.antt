use Rattle.std.proofs.lemmas.List.{take_rest}
use Rattle.math_theory.proofs.interpolation.DifferenceProducts.{differences-step, differences-end}
use Rattle.math_poly.proofs.DifferencesByFours.{differences-four}
use Rattle.math_poly.proofs.weights.times_differences.Goals as goal

pub loop-left-preserved : goal.loop-left-preserved
loop-left-preserved g c =
    let R = g.met.R in
    rw take_rest
    (differences-four R.Object.equality R.Additive.group R.Multiplicative.commutes R.Ring.ring c.args.r.now c.a-item.result c.b-item.result c.c-item.result c.d-item.result
    c.loop-left.out c.in_ok-four.four c.in_ok-others.others c.mul_assign.new.self c.mul_assign-in-len4-up.new.self _ c.loop-left.left.now c.in-len4-up.len_at_least
    c.a-item.is c.b-item.is c.c-item.is c.d-item.is c.in_ok-four.ensures c.in_ok-others.ensures c.in_ok-mul_assign.ensures.ok c.in_ok-mul_assign-2.ensures.ok c.loop-left.invariant)

pub loop-x-init : goal.loop-x-init
loop-x-init g c = c.loop-left.invariant

pub loop-x-preserved : goal.loop-x-preserved
loop-x-preserved g c =
    let R = g.met.R in
    differences-step R.Object.equality R.Additive.group R.Multiplicative.commutes R.Ring.ring c.args.r.now c.x-item.result c.loop-x.out c.mul_assign-in-loop-x.new.self c.args.r.now
    c.in_ok-difference.difference _ c.loop-left.left.now c.loop-x.x-index c.loop-x-test.true c.x-item.is (R.Object.equality.reflexive c.args.r.now) c.in_ok-difference.ensures
    c.in_ok-mul_assign-3.ensures.ok c.loop-x.invariant

pub returns : goal.returns
returns g c =
    let R = g.met.R in
    differences-end R.Object.equality R.Additive.group R.Multiplicative.commutes R.Ring.ring c.args.r.now c.loop-x.out _ c.loop-left.left.now c.loop-x.x-index c.loop-x-test.false c.loop-x.invariant
