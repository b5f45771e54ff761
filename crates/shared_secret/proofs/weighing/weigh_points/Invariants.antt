use Rattle.std.proofs.Common.{take}
use Rattle.std.specs.List.{AllZip}
use Rattle.math_theory.specs.Interpolation.{AreApart}
use Rattle.math_base.specs.Polynomials.{AreWeightsAt}
use Rattle.math_base.proofs.Members.{ring_members}
use Rattle.shared_secret.proofs.weighing.weigh_points.Given as goal

-- the weights for the further points so far
abbrev pub invariant-loop-x : goal.invariant-loop-x
invariant-loop-x g l =
    let R = ring_members g.F.Multiplicative.product g.F.Debug.debug_output g.F.Object.same g.F.Object.NEVER_REFUSES g.F.Additive.zero g.F.Additive.sum g.F.Additive.negative g.F.Ring.one in
    AreApart R.same l.first → AllZip (λ x w. AreWeightsAt R x l.first w.items) (take l.x-index l.others) l.further.items
