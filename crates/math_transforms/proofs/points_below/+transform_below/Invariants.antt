use Rattle.std.proofs.Common.{◌≡◌, ◌+◌, ◌-◌, ◌*◌, ◌^◌, length, not, eqb}
use Rattle.math_base.proofs.Members.{ring_members}
use Rattle.math_transforms.specs.StepsBelow.{AreTransformedBelow}
use Rattle.math_transforms.proofs.ListParts.{ArePartsDone}
use Rattle.math_transforms.proofs.points_below.+transform_below.Given as goal

abbrev pub decreases-transform_below : goal.decreases-transform_below
decreases-transform_below g l = l.points.now.lg

-- the parts so far are transformed, and the others are as they were
abbrev pub invariant-loop-k : goal.invariant-loop-k
invariant-loop-k g l =
    let R = ring_members g.F.Multiplicative.product g.F.Debug.debug_output g.F.Object.same g.F.Object.NEVER_REFUSES g.F.Additive.zero g.F.Additive.sum g.F.Additive.negative g.F.Ring.one in
    record {
      parts : ArePartsDone l.part (λ k. AreTransformedBelow R (not (eqb g.row.FORWARD 0)) l.points.roots.now l.lg (l.parts * l.points.place + k) l.cols) l.k l.initial.cells l.cells;
      butterflies : 2 * l.work.butterflies ≡ 2 * l.fn.work.butterflies + l.first * length l.fn.cells + l.k * (l.cols * 2 ^ l.lg * l.lg);
      root_products : l.work.root_products ≡ l.fn.work.root_products;
    }
