use Rattle.std.proofs.Common.{arith}
use Rattle.math_base.proofs.Members.{ring_members}
use Rattle.math_transforms.proofs.PowersOfTwo.{power_of_two-double}
use Rattle.math_transforms.proofs.TreeLevels.{scaled-more}
use Rattle.math_transforms.proofs.trees.+scale_levels.Goals as goal

pub returns-then-lg-eq0-clause-scaled : goal.returns-then-lg-eq0-clause-scaled
returns-then-lg-eq0-clause-scaled g t c = grind arith

pub split_at_mut-below-requires : goal.split_at_mut-below-requires
split_at_mut-below-requires g t c = omega (arith, c.size_of.ensures, power_of_two-double c.args.lg (omega arith), c.requires.size)

pub returns-clause-scaled : goal.returns-clause-scaled
returns-clause-scaled g t c =
    let R = ring_members g.F.Multiplicative.product g.F.Debug.debug_output g.F.Object.same g.F.Object.NEVER_REFUSES g.F.Additive.zero g.F.Additive.sum g.F.Additive.negative g.F.Ring.one in
    let F = g.met.F in
    let E = F.Object.equality in
    let copied = c.in_ok-square.ensures.ok in
    let square = E.transitive _ _ _ c.in_ok-square-2.ensures.ok (F.Multiplicative.commutes.respects _ _ _ _ copied copied) in
    scaled-more R F.Object.equality F.Additive.group F.Multiplicative.commutes F.Ring.ring c.args.start.now c.square.new.self c.args.lg c.size_of.result c.args.tree.now
    c.split_at_mut-below.result.0.now c.split_at_mut-below.result.1.now c.scale_levels.new.tree c.multiply_row.new.cells c.if-lg-eq0.false c.size_of.ensures c.requires.size
    c.split_at_mut-below.ensures.front c.split_at_mut-below.ensures.back c.scale_levels.auto.tree square c.in_ok-multiply_row.ensures.products c.in_ok-scale_levels.ensures.scaled
