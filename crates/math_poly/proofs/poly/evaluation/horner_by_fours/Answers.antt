use Rattle.math_poly.proofs.HornerSteps.{square-made, horner-four_taken}
use Rattle.math_poly.proofs.poly.evaluation.horner_by_fours.Goals as goal

pub loop-front-preserved : goal.loop-front-preserved
loop-front-preserved g c =
    let K = g.met.K in
    let S = g.met.R.Object.equality in
    let P = g.met.R.Multiplicative.commutes in
    let r = c.args.r.now in
    let r2 = c.square.new.self in
    let r4 = c.square-2.new.self in
    horner-four_taken K.Object.equality K.Additive.group K.Space.spans r r2 r4 c.loop-front.front.now c.a-item.result c.b-item.result c.c-item.result c.d-item.result
    c.in_ok-low.low c.in_ok-high.high c.horner_step.new.out c.horner_step-in-len4-up.new.out c.horner_step-in-len4-up-2.new.out c.loop-front.out c.horner_step-in-len4-up-3.new.out _
    (square-made K.Object.equality K.Additive.group K.Space.spans S P r c.in_ok-r2.r2 r2 c.in_ok-r2.ensures.ok c.in_ok-square.ensures.ok)
    (square-made K.Object.equality K.Additive.group K.Space.spans S P r2 c.in_ok-r4.r4 r4 c.in_ok-r4.ensures.ok c.in_ok-square-2.ensures.ok)
    c.in-len4-up.len_at_least c.a-item.is c.b-item.is c.c-item.is c.d-item.is c.in_ok-low.ensures.ok c.in_ok-horner_step.ensures.ok c.in_ok-high.ensures.ok
    c.in_ok-horner_step-2.ensures.ok c.in_ok-horner_step-3.ensures.ok c.in_ok-horner_step-4.ensures.ok c.loop-front.invariant

pub returns-clause-ok : goal.returns-clause-ok
returns-clause-ok g c = g.met.K.Object.equality.transitive _ _ _ c.in_ok-out.ensures.ok c.loop-front.invariant
