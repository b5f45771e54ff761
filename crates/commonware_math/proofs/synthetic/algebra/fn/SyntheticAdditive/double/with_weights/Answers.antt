use Rattle.commonware_math.proofs.synthetic.algebra.fn.SyntheticAdditive.double.with_weights.Goals as goal

pub returns : goal.returns
returns g c = g.met.F.Object.equality.transitive _ _ _ c.in_ok-double.ensures.ok (g.met.F.Additive.group.respects_sum _ _ _ _ c.in_ok-out.ensures.ok c.in_ok-out.ensures.ok)
