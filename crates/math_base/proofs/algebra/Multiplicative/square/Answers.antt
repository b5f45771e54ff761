use Rattle.math_base.proofs.algebra.Multiplicative.square.Goals as goal

pub returns-clause-ok : goal.returns-clause-ok
returns-clause-ok g c =
    let E = g.met.Self.Object.equality in
    let P = g.met.Self.Multiplicative.commutes in
    grw (E.transitive, E.reflexive, P.respects, c.in_ok-mul_assign.ensures.ok, c.in_ok-copy.ensures.ok)
