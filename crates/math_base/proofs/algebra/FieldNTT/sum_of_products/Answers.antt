use Rattle.math_base.proofs.algebra.FieldNTT.sum_of_products.Goals as goal

pub returns-clause-ok : goal.returns-clause-ok
returns-clause-ok g c =
    let E = g.met.Self.Object.equality in
    let G = g.met.Self.Additive.group in
    let P = g.met.Self.Multiplicative.commutes in
    grw (
      E.transitive,
      E.reflexive,
      G.respects_sum,
      P.respects,
      c.in_ok-add_assign.ensures.ok,
      c.in_ok-mul_assign-2.ensures.ok,
      c.in_ok-second.ensures.ok,
      c.in_ok-mul_assign.ensures.ok,
      c.in_ok-out.ensures.ok,
    )
