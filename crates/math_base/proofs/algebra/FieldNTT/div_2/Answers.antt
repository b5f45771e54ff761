use Rattle.math_base.proofs.Halves.{half_by_inverse}
use Rattle.math_base.proofs.algebra.FieldNTT.div_2.Goals as goal

pub returns-clause-ok : goal.returns-clause-ok
returns-clause-ok g c =
    let S = g.met.Self in
    half_by_inverse S.Object.equality S.Additive.group S.Multiplicative.commutes S.Ring.ring S.Field.field g.Self.FieldNTT.half S.FieldNTT.roots.half_twice
    _ _ _ _ c.args.self.now c.in_ok-two.ensures.ok c.in_ok-double.ensures.ok c.in_ok-out.ensures.ok c.in_ok-mul_assign.ensures.ok
