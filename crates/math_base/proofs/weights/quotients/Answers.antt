use Rattle.std.proofs.Common.{◌≡◌, ◌∙◌, ◌++◌, length, take, drop, ap}
use Rattle.math_theory.proofs.interpolation.SharedQuotients.{quotients-times, quotients-zero}
use Rattle.math_base.proofs.WholeWrites.{take-written}
use Rattle.math_base.proofs.weights.quotients.Goals as goal

pub returns-clause-each : goal.returns-clause-each
returns-clause-each g c =
    let F = g.met.F in
    let old = c.in_ok-out.out.items in
    let new = c.times_after.new.items in
    let kept : length new ≡ length old = c.times_after.auto.items ∙ ap length c.deref_mut.ensures.value in
    let written : take c.in_ok-out.out.len (new ++ drop (length new) old) ≡ new = take-written c.in_ok-out.out.len old new c.in_ok-out.out.ok.0 kept in
    rw written
    (quotients-times F.Object.equality F.Additive.group F.Multiplicative.commutes F.Ring.ring F.Field.field c.in_ok-out.whole c.in_ok-factor.factor c.mul_assign.new.self c.args.numerator
    c.args.divisors.now old new
    c.in_ok-out.ensures.all c.in_ok-factor.ensures.ok c.in_ok-mul_assign.ensures.ok c.in_ok-out.ensures.before (rw c.deref_mut.ensures.value at c.in_ok-times_after.ensures))

pub returns-clause-zeros : goal.returns-clause-zeros
returns-clause-zeros g c =
    let F = g.met.F in
    let old = c.in_ok-out.out.items in
    let new = c.times_after.new.items in
    let kept : length new ≡ length old = c.times_after.auto.items ∙ ap length c.deref_mut.ensures.value in
    let written : take c.in_ok-out.out.len (new ++ drop (length new) old) ≡ new = take-written c.in_ok-out.out.len old new c.in_ok-out.out.ok.0 kept in
    rw written
    (quotients-zero F.Object.equality F.Additive.group F.Multiplicative.commutes F.Ring.ring F.Field.field c.in_ok-out.whole c.in_ok-factor.factor c.mul_assign.new.self c.args.numerator
    c.args.divisors.now old new
    c.in_ok-out.ensures.all c.in_ok-factor.ensures.ok c.in_ok-mul_assign.ensures.ok c.in_ok-out.ensures.before (rw c.deref_mut.ensures.value at c.in_ok-times_after.ensures)
    (kept ∙ c.in_ok-out.ensures.count))
