use Rattle.std.proofs.Common.{arith}
use Rattle.math_decoding.proofs.SubtractedMultiples.{subtracted}
use Rattle.math_decoding.proofs.coefficients.subtract_multiple.Goals as goal

pub returns-clause-ok : goal.returns-clause-ok
returns-clause-ok g c =
    let F = g.met.F in
    subtracted F.Object.equality F.Additive.group F.Multiplicative.commutes F.Ring.ring c.args.from c.args.p.now c.loop-j.p c.args.by.now c.args.c.now
    c.loop-j.invariant.before (λ t l. c.loop-j.invariant.done t (omega (arith, l, c.loop-j-test.false)))
    (λ t l. c.loop-j.invariant.rest t (omega (arith, l, c.loop-j.auto.j-end)))
