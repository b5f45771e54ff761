use Rattle.math_base.proofs.algebra.Additive.double.Goals as goal

pub returns-clause-ok : goal.returns-clause-ok
returns-clause-ok g c =
    let E = g.met.Self.Object.equality in
    let G = g.met.Self.Additive.group in
    grw (E.transitive, E.reflexive, G.respects_sum, c.in_ok-add_assign.ensures.ok, c.in_ok-copy.ensures.ok)
