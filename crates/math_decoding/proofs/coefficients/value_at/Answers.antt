use Rattle.std.proofs.Common.{arith}
use Rattle.math_decoding.proofs.CoefficientLists.{value-before}
use Rattle.math_decoding.proofs.coefficients.value_at.Goals as goal

pub loop-i-preserved : goal.loop-i-preserved
loop-i-preserved g c =
    let F = g.met.F in
    value-before F.Object.equality F.Additive.group F.Multiplicative.commutes F.Ring.ring c.args.r.now c.args.p.now c.loop-i.i c.index-p-i.result
    c.loop-i.value c.mul_assign.new.self c.add_assign.new.self (omega arith) (omega arith) c.index-p-i.is
    c.loop-i.invariant c.in_ok-mul_assign.ensures.ok c.in_ok-add_assign.ensures.ok
