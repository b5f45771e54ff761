use Rattle.std.proofs.Common.{◌≡◌, ◌∙◌, ◌++◌, length, take, drop, ap}
use Rattle.math_base.proofs.WholeWrites.{take-written}
use Rattle.math_transforms.proofs.trees.root_tree.Goals as goal

pub start_at-requires-clause-size : goal.start_at-requires-clause-size
start_at-requires-clause-size g c = ap length c.deref_mut.ensures.value ∙ c.in_ok-tree.ensures.count

pub returns : goal.returns
returns g c =
    let tree = c.in_ok-tree.tree in
    let new = c.start_at.new.tree in
    let kept : length new ≡ length tree.items = c.start_at.auto.tree ∙ ap length c.deref_mut.ensures.value in
    let written : take tree.len (new ++ drop (length new) tree.items) ≡ new = take-written tree.len tree.items new tree.ok.0 kept in
    rw written ((rw c.deref_mut.ensures.value at c.in_ok-start_at.ensures.tree) g.F.FieldNTT.root c.args.start.now (g.met.F.Object.equality.reflexive c.args.start.now) c.in_ok-tree.ensures)
