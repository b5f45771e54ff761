use Rattle.std.proofs.Common.{not, eqb, if◌then◌else◌}
use Rattle.math_base.proofs.Members.{ring_members}
use Rattle.math_transforms.proofs.TreeEntries.{AreLevels}
use Rattle.math_transforms.proofs.trees.domain_tree.Given as goal

-- the levels so far
abbrev pub invariant-loop-l : goal.invariant-loop-l
invariant-loop-l g l =
    let R = ring_members g.F.Multiplicative.product g.F.Debug.debug_output g.F.Object.same g.F.Object.NEVER_REFUSES g.F.Additive.zero g.F.Additive.sum g.F.Additive.negative g.F.Ring.one in
    let F = g.met.F in
    AreLevels R F.Object.equality F.Additive.group F.Multiplicative.commutes F.Ring.ring
    (λ k. if not (eqb g.row.FORWARD 0) then g.F.FieldNTT.root k else g.F.Field.inverse (g.F.FieldNTT.root k)) l.lg l.l l.tree.items
