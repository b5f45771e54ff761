use Rattle.math_poly.proofs.HornerSteps.{horner-all}
use Rattle.math_poly.proofs.poly.Poly.eval.Goals as goal

pub returns-then-front-ge8-clause-ok : goal.returns-then-front-ge8-clause-ok
returns-then-front-ge8-clause-ok g c =
    let K = g.met.K in
    horner-all K.Object.equality K.Additive.group K.Space.spans c.args.r.now c.as_slice.result.now c.args.self.now c.last-item.result c.in_ok-last.last c.in_ok-out.out (cc)
    c.in-len1-up.len_at_least c.last-item.is c.in_ok-last.ensures.ok c.in_ok-out.ensures.ok

pub returns-clause-ok : goal.returns-clause-ok
returns-clause-ok g c =
    let K = g.met.K in
    horner-all K.Object.equality K.Additive.group K.Space.spans c.args.r.now c.as_slice.result.now c.args.self.now c.last-item.result c.in_ok-last.last c.in_ok-out-2.out (cc)
    c.in-len1-up.len_at_least c.last-item.is c.in_ok-last.ensures.ok c.in_ok-out-2.ensures.ok
