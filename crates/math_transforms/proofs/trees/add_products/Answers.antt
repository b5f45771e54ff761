use Rattle.std.proofs.Common.{◌≡◌, ◌∙◌, ◌+◌, ◌-◌, ◌<◌, length, get_or, sym, ap, arith}
use Rattle.std.proofs.lemmas.List.{get_or_default}
use Rattle.math_base.proofs.Members.{ring_members}
use Rattle.math_transforms.specs.RootTrees.{entry}
use Rattle.math_transforms.proofs.TreeLevels.{made-more}
use Rattle.math_transforms.proofs.trees.add_products.Goals as goal

pub loop-i-preserved : goal.loop-i-preserved
loop-i-preserved g c =
    let R = ring_members g.F.Multiplicative.product g.F.Debug.debug_output g.F.Object.same g.F.Object.NEVER_REFUSES g.F.Additive.zero g.F.Additive.sum g.F.Additive.negative g.F.Ring.one in
    let F = g.met.F in
    let E = F.Object.equality in
    let mid = c.loop-i.tree.items in
    let root = c.args.root.now in
    let next : c.loop-i.i + 1 - c.args.from ≡ (c.loop-i.i - c.args.from) + 1 = omega arith in
    let place : c.args.from + (c.loop-i.i - c.args.from) ≡ c.loop-i.i = omega arith in
    let below : c.args.from + (c.loop-i.i - c.args.from) < length c.args.tree.now.items = omega (arith, place, c.requires, c.loop-i-test.true) in
    let inside : c.loop-i.i < length mid = omega (arith, c.loop-i.invariant.count, below, place) in
    let read : entry R mid (c.args.from + (c.loop-i.i - c.args.from)) ≡ c.index.result.now =
    ap (λ k. get_or mid k R.zero) place ∙ get_or_default mid c.loop-i.i R.zero c.index.result.now inside ∙ sym c.index.ensures in
    rw next
    (made-more R (λ x. R.product x root) c.args.from (c.loop-i.i - c.args.from) c.args.tree.now.items mid c.push.new.self.items c.mul_assign.new.self below c.loop-i.invariant
    (rw read (E.transitive _ _ _ c.in_ok-mul_assign.ensures.ok (F.Multiplicative.commutes.respects _ _ _ _ c.in_ok-product.ensures.ok (E.reflexive root))))
    c.in_ok-push.ensures.items)
