use Rattle.math_base.proofs.Members.{ring_members}
use Rattle.math_transforms.proofs.TreeEntries.{scaled-tree}
use Rattle.math_transforms.proofs.trees.start_at.Goals as goal

pub returns-clause-tree : goal.returns-clause-tree
returns-clause-tree g c = λ root s h T.
    let R = ring_members g.F.Multiplicative.product g.F.Debug.debug_output g.F.Object.same g.F.Object.NEVER_REFUSES g.F.Additive.zero g.F.Additive.sum g.F.Additive.negative g.F.Ring.one in
    let F = g.met.F in
    scaled-tree R F.Object.equality F.Additive.group F.Multiplicative.commutes F.Ring.ring root c.args.start.now s c.args.lg c.args.tree.now c.scale_levels.new.tree h T
    c.in_ok-scale_levels.ensures.scaled c.scale_levels.auto.tree
