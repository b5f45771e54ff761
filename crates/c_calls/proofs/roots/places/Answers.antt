use Rattle.std.proofs.Common.{◌≤◌, length, rules, arith}
use Rattle.sha2.specs.Sha512.{sha512_256}
use Rattle.hash_trees.specs.Steps.{path_steps}
use Rattle.hash_trees.specs.Trees.{path}
use Rattle.hash_trees.proofs.CountedSteps.{steps_below}
use Rattle.c_calls.proofs.PathCounts.{length-path, most}
use Rattle.c_calls.proofs.RootedLists.{resized-place}
use Rattle.c_calls.proofs.roots.places.Goals as goal

pub overflow_mul-total : goal.overflow_mul-total
overflow_mul-total c =
    let few : c.path_steps-room.result ≤ c.args.total = omega (arith, c.path_steps-room.ensures, steps_below c.args.total c.args.total 0) in
    search rules

pub loop-index-preserved : goal.loop-index-preserved
loop-index-preserved c =
    let total = c.args.total in
    let leaves = c.args.commitment.now.tree in
    let i = c.loop-index.index in
    let few : length (path sha512_256 leaves i) ≤ path_steps total 0 =
    rw (length-path sha512_256 total i leaves c.requires.all) (most total i c.loop-index-test.true) in
    let made = rw c.path_steps-room.ensures at c.in_ok-resize.ensures.items in
    rw (c.in_ok-extend_from_slice.ensures.items, c.deref.ensures.value)
    (resized-place (path_steps total 0) i (path sha512_256 leaves) c.loop-index.places.items c.in_ok-place.place.items c.resize.new.self.items _ c.in_ok-place.ensures few (omega arith) made
    c.loop-index.invariant)
