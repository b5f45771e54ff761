use Rattle.std.proofs.Common.{◌∙◌, [], ◌∷◌, ap, arith, length, map, sym}
use Rattle.std.proofs.lemmas.List.{map-append}
use Rattle.sha2.specs.Sha512.{sha512_256}
use Rattle.hash_trees.specs.Trees.{root}
use Rattle.hash_trees.proofs.KeptLevels.{chain_levels, chain_lowest, chain_push}
use Rattle.hash_trees.proofs.Levels.{length-above}
use Rattle.hash_trees.proofs.Steps.{root_of_above, root_one}
use Rattle.hash_trees.proofs.tree_levels.Tree.new.Goals as goal

pub loop-alloc-smaller : goal.loop-alloc-smaller
loop-alloc-smaller c =
    let nodes = rw c.deref.ensures.value at c.in_ok-next.ensures in
    let size = ap length nodes ∙ length-above sha512_256 c.loop-alloc.level.items in
    omega (arith, size)

pub loop-alloc-preserved : goal.loop-alloc-preserved
loop-alloc-preserved c =
    let nodes = rw c.deref.ensures.value at c.in_ok-next.ensures in
    let size = ap length nodes ∙ length-above sha512_256 c.loop-alloc.level.items in
    let all = ap (map (λ level. level.items)) c.in_ok-push.ensures.items ∙ map-append (λ level. level.items) c.loop-alloc.levels.items (c.loop-alloc.level ∷ []) in
    let chain = chain_push sha512_256 c.args.leaves.items (map (λ level. level.items) c.loop-alloc.levels.items) c.loop-alloc.level.items (omega arith) c.loop-alloc.invariant.1 in
    (omega (arith, size), rw (all, nodes) chain, ap (root sha512_256) nodes ∙ root_of_above sha512_256 c.loop-alloc.level.items ∙ c.loop-alloc.invariant.2)

pub invariant_of-result : goal.invariant_of-result
invariant_of-result c =
    let all = ap (map (λ level. level.items)) c.in_ok-push-2.ensures.items ∙ map-append (λ level. level.items) c.loop-alloc.levels.items (c.loop-alloc.level ∷ []) in
    let some = c.loop-alloc.invariant.0 in
    let levels = chain_levels sha512_256 c.args.leaves.items (map (λ level. level.items) c.loop-alloc.levels.items) c.loop-alloc.level.items (omega (arith, some)) c.loop-alloc.invariant.1 in
    let leaves = chain_lowest sha512_256 c.args.leaves.items (map (λ level. level.items) c.loop-alloc.levels.items) c.loop-alloc.level.items c.loop-alloc.invariant.1 in
    let only = root_one sha512_256 c.loop-alloc.level.items c.index-top.result.now some (omega (arith, some)) in
    rw (all, leaves) (levels, c.index-top.ensures ∙ sym only ∙ c.loop-alloc.invariant.2)
