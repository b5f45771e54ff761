use Rattle.std.proofs.Common.{◌-◌}
use Rattle.math_base.proofs.Members.{ring_members}
use Rattle.math_transforms.specs.TreeLevels.{AddsMade}
use Rattle.math_transforms.proofs.trees.add_copies.Given as goal

abbrev pub invariant-loop-i : goal.invariant-loop-i
invariant-loop-i g l =
    AddsMade (ring_members g.F.Multiplicative.product g.F.Debug.debug_output g.F.Object.same g.F.Object.NEVER_REFUSES g.F.Additive.zero g.F.Additive.sum g.F.Additive.negative g.F.Ring.one)
    (λ x. x) l.from (l.i - l.from) l.initial.tree.items l.tree.items
