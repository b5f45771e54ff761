use Rattle.std.proofs.Common.{◌≡◌, ◌∙◌, ◌++◌, ◌∷◌, [], List, not, eqb, ap, arith}
use Rattle.math_base.proofs.Members.{ring_members}
use Rattle.math_transforms.proofs.RootInverses.{level_root-square}
use Rattle.math_transforms.proofs.TreeEntries.{levels-one, levels-next, levels-tree}
use Rattle.math_transforms.proofs.trees.domain_tree.Goals as goal

pub loop-l-init : goal.loop-l-init
loop-l-init g c =
    let R = ring_members g.F.Multiplicative.product g.F.Debug.debug_output g.F.Object.same g.F.Object.NEVER_REFUSES g.F.Additive.zero g.F.Additive.sum g.F.Additive.negative g.F.Ring.one in
    let F = g.met.F in
    let items : c.push-2.new.self.items ≡ c.in_ok-first.first ∷ c.in_ok-one.field-0 ∷ [] =
    c.in_ok-push-2.ensures.items
    ∙ ap (λ (xs : List g.row.F.Denot). xs ++ (c.in_ok-one.field-0 ∷ []))
    (c.in_ok-push.ensures.items ∙ ap (λ (xs : List g.row.F.Denot). xs ++ (c.in_ok-first.first ∷ [])) c.in_ok-tree.ensures.items) in
    rw items (levels-one R F.Object.equality F.Additive.group F.Multiplicative.commutes F.Ring.ring _ _ _ c.args.lg c.in_ok-first.ensures c.in_ok-one.ensures.ok)

pub loop-l-preserved : goal.loop-l-preserved
loop-l-preserved g c =
    let R = ring_members g.F.Multiplicative.product g.F.Debug.debug_output g.F.Object.same g.F.Object.NEVER_REFUSES g.F.Additive.zero g.F.Additive.sum g.F.Additive.negative g.F.Ring.one in
    let F = g.met.F in
    levels-next R F.Object.equality F.Additive.group F.Multiplicative.commutes F.Ring.ring _ c.args.lg c.loop-l.l c.size_of-in-loop-l.result c.in_ok-root.root _ _ (omega arith)
    c.size_of-in-loop-l.ensures c.in_ok-root.ensures
    (level_root-square F.Object.equality F.Additive.group F.Multiplicative.commutes F.Ring.ring F.Field.field F.FieldNTT.roots (not (eqb g.row.FORWARD 0)) c.loop-l.l (omega arith))
    c.loop-l.invariant c.in_ok-add_level.ensures

pub returns-then-lg-eq0 : goal.returns-then-lg-eq0
returns-then-lg-eq0 g c = grind arith

pub returns : goal.returns
returns g c =
    let R = ring_members g.F.Multiplicative.product g.F.Debug.debug_output g.F.Object.same g.F.Object.NEVER_REFUSES g.F.Additive.zero g.F.Additive.sum g.F.Additive.negative g.F.Ring.one in
    let F = g.met.F in
    let e : c.loop-l.l ≡ c.args.lg = omega arith in
    levels-tree R F.Object.equality F.Additive.group F.Multiplicative.commutes F.Ring.ring _ c.args.lg c.loop-l.tree.items (rw e at c.loop-l.invariant)
