use Rattle.math_poly.proofs.HornerSteps.{horner-taken, horner-done}
use Rattle.math_poly.proofs.poly.evaluation.horner.Goals as goal

pub loop-front-preserved : goal.loop-front-preserved
loop-front-preserved g c =
    let K = g.met.K in
    horner-taken K.Object.equality K.Additive.group K.Space.spans c.args.r.now c.loop-front.front.now c.coefficient-item.result c.loop-front.out c.horner_step.new.out _
    c.in-len1-up.len_at_least c.coefficient-item.is c.in_ok-horner_step.ensures.ok c.loop-front.invariant

pub returns-clause-ok : goal.returns-clause-ok
returns-clause-ok g c =
    let K = g.met.K in
    horner-done K.Object.equality K.Additive.group K.Space.spans c.args.r.now c.loop-front.front.now c.loop-front.out _ c.in_default.len_below c.loop-front.invariant
