use Rattle.std.proofs.Common.{take}
use Rattle.std.specs.List.{All, AllZip}
use Rattle.math_theory.specs.Interpolation.{AreApart}
use Rattle.math_base.proofs.Members.{ring_members}
use Rattle.shared_secret.specs.Shares.{point}
use Rattle.shared_secret.proofs.combining.distinct_points.Given as goal

-- the points so far
abbrev pub invariant-loop-share : goal.invariant-loop-share
invariant-loop-share g l =
    let R = ring_members g.F.Multiplicative.product g.F.Debug.debug_output g.F.Object.same g.F.Object.NEVER_REFUSES g.F.Additive.zero g.F.Additive.sum g.F.Additive.negative g.F.Ring.one in
    record {
      points : AllZip (λ share x. R.same x (point R share.index)) (take l.share-index l.shares) l.out.items;
      nonzero : All (λ x. ¬ (R.same x R.zero)) l.out.items;
      apart : AreApart R.same l.out.items;
    }
