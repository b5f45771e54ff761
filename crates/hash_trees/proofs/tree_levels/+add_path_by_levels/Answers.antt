use Rattle.std.proofs.Common.{◌≡◌, ◌<◌, ◌≤◌, ◌∙◌, [], ap, length, map, arith, sym, append_assoc}
use Rattle.std.specs.Prelude.{slice_index_or}
use Rattle.std.proofs.lemmas.Grind.{common_steps}
use Rattle.sha2.specs.Sha512.{sha512_256}
use Rattle.hash_trees.specs.TreeLevels.{lowest}
use Rattle.hash_trees.specs.Trees.{neighbour}
use Rattle.hash_trees.proofs.KeptLevels.{first_items, higher_items, higher_levels, same_item, some_level}
use Rattle.hash_trees.proofs.Levels.{length-above}
use Rattle.hash_trees.proofs.Steps.{neighbour_within, path_alone, path_one, path_step}
use Rattle.hash_trees.proofs.tree_levels.+add_path_by_levels.Goals.{then-not-is_alone+in_ok-push, else-not-is_alone}
use Rattle.hash_trees.proofs.tree_levels.+add_path_by_levels.Goals as goal

pub returns-then-len-eq1 : goal.returns-then-len-eq1
returns-then-len-eq1 t c =
    let first = first_items c.args.levels.now c.level-item.result c.in-len1-up.len_at_least c.level-item.is in
    let size = ap length first in
    let e = path_one sha512_256 (lowest (map (λ level. level.items) c.args.levels.now)) c.args.i c.requires.within (omega (arith, size)) in
    rw e (grind (arith, common_steps))

pub index-requires : goal.index-requires
index-requires t c =
    let first = first_items c.args.levels.now c.level-item.result c.in-len1-up.len_at_least c.level-item.is in
    let within : c.args.i < length c.level-item.result.items = rw first at c.requires.within in
    let count : c.len-2.result ≡ length c.level-item.result.items = omega arith in
    let alone = rw count at (sym c.is_alone.ensures ∙ c.if-not-is_alone.true) in
    let below = neighbour_within (length c.level-item.result.items) c.args.i within alone in
    let is = c.neighbour.ensures in
    omega (arith, below, is)

pub add_path_by_levels-requires : goal.add_path_by_levels-requires
add_path_by_levels-requires t c =
    let first = first_items c.args.levels.now c.level-item.result c.in-len1-up.len_at_least c.level-item.is in
    let size = ap length first in
    let some = some_level sha512_256 (map (λ level. level.items) c.args.levels.now) c.requires.levels in
    let higher = higher_levels sha512_256 (map (λ level. level.items) c.args.levels.now) c.requires.levels (omega (arith, some, size)) in
    let count = ap length higher.1 ∙ length-above sha512_256 (lowest (map (λ level. level.items) c.args.levels.now)) in
    rw (higher_items c.args.levels.now) (omega (arith, c.decreases, c.in-len1-up.len_at_least), (higher.0, omega (arith, count, c.requires.within)))

pub returns : goal.returns
returns t c =
    let first = first_items c.args.levels.now c.level-item.result c.in-len1-up.len_at_least c.level-item.is in
    let size = ap length first in
    let some = some_level sha512_256 (map (λ level. level.items) c.args.levels.now) c.requires.levels in
    let two : 2 ≤ length (lowest (map (λ level. level.items) c.args.levels.now)) = omega (arith, some, size) in
    let levels = higher_levels sha512_256 (map (λ level. level.items) c.args.levels.now) c.requires.levels two in
    let higher = rw (higher_items c.args.levels.now, levels.1) at c.add_path_by_levels.ensures in
    let count : c.len-2.result ≡ length (lowest (map (λ level. level.items) c.args.levels.now)) = omega (arith, size) in
    let is = rw count at c.is_alone.ensures in
    elim c.if-not-is_alone.branch [
      | then-not-is_alone+in_ok-push w ↦
          let within : c.args.i < length c.level-item.result.items = rw first at c.requires.within in
          let fewer : c.len-2.result ≡ length c.level-item.result.items = omega (arith) in
          let alone = rw fewer at (sym c.is_alone.ensures ∙ w.if-not-is_alone.true) in
          let beside = neighbour_within (length c.level-item.result.items) c.args.i within alone in
          let there : neighbour c.args.i ≡ w.neighbour.result = sym w.neighbour.ensures in
          let below : w.neighbour.result < length c.level-item.result.items = rw there at beside in
          let item : w.index.result.now ≡ slice_index_or (lowest (map (λ level. level.items) c.args.levels.now)) (neighbour c.args.i) [] =
          w.index.ensures ∙ same_item c.level-item.result.items w.neighbour.result w.index.result.now [] below
          ∙ ap (λ k. slice_index_or c.level-item.result.items k []) (sym there) ∙ ap (λ nodes. slice_index_or nodes (neighbour c.args.i) []) (sym first) in
          let next = rw (w.out-is, w.in_ok-push.ensures.items, append_assoc, item) at higher in
          rw (path_step sha512_256 (lowest (map (λ level. level.items) c.args.levels.now)) c.args.i two c.requires.within (sym is ∙ w.if-not-is_alone.true)) next
      | else-not-is_alone w ↦
          let next = rw w.out-is at higher in
          rw (path_alone sha512_256 (lowest (map (λ level. level.items) c.args.levels.now)) c.args.i two c.requires.within (sym is ∙ w.if-not-is_alone.false)) next
    ]
