use Rattle.std.proofs.Common.{◌∙◌, ap, arith, length, sym}
use Rattle.sha2.specs.Sha512.{sha512_256}
use Rattle.hash_trees.specs.Trees.{root}
use Rattle.hash_trees.proofs.Levels.{length-above}
use Rattle.hash_trees.proofs.Steps.{root_of_above, root_one}
use Rattle.hash_trees.proofs.trees.root.Goals as goal

pub loop-alloc-init : goal.loop-alloc-init
loop-alloc-init c =
    let nodes = c.in_ok-level.ensures in
    let size = ap length nodes ∙ length-above sha512_256 c.args.leaves.now in
    (omega (arith, size, c.requires), ap (root sha512_256) nodes ∙ root_of_above sha512_256 c.args.leaves.now)

pub loop-alloc-smaller : goal.loop-alloc-smaller
loop-alloc-smaller c =
    let nodes = rw c.deref.ensures.value at c.in_ok-level-2.ensures in
    let size = ap length nodes ∙ length-above sha512_256 c.loop-alloc.level.items in
    omega (arith, size, c.loop-alloc.invariant.0)

pub loop-alloc-preserved : goal.loop-alloc-preserved
loop-alloc-preserved c =
    let nodes = rw c.deref.ensures.value at c.in_ok-level-2.ensures in
    let size = ap length nodes ∙ length-above sha512_256 c.loop-alloc.level.items in
    (omega (arith, size, c.loop-alloc.invariant.0), ap (root sha512_256) nodes ∙ root_of_above sha512_256 c.loop-alloc.level.items ∙ c.loop-alloc.invariant.1)

pub returns : goal.returns
returns c =
    let only = root_one sha512_256 c.loop-alloc.level.items c.index.result.now c.loop-alloc.invariant.0 (omega arith) in
    c.index.ensures ∙ sym only ∙ c.loop-alloc.invariant.1
