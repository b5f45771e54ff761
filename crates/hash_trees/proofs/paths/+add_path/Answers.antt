use Rattle.std.proofs.Common.{◌∙◌, ap, length, arith, sym, append_assoc}
use Rattle.std.proofs.lemmas.Grind.{common_steps}
use Rattle.sha2.specs.Sha512.{sha512_256}
use Rattle.hash_trees.proofs.Levels.{length-above}
use Rattle.hash_trees.proofs.Steps.{neighbour_within, path_alone, path_one, path_step}
use Rattle.hash_trees.proofs.paths.+add_path.Goals.{then-not-is_alone+in_ok-push, else-not-is_alone}
use Rattle.hash_trees.proofs.paths.+add_path.Goals as goal

pub returns-then-level-eq1 : goal.returns-then-level-eq1
returns-then-level-eq1 t c =
    let e = path_one sha512_256 c.args.level.now c.args.i c.requires (omega arith) in
    rw e (grind (arith, common_steps))

pub bounds-level-neighbour : goal.bounds-level-neighbour
bounds-level-neighbour t c =
    rw c.neighbour.ensures (neighbour_within (length c.args.level.now) c.args.i c.requires (sym c.is_alone.ensures ∙ c.if-not-is_alone.true))

pub add_path-requires : goal.add_path-requires
add_path-requires t c =
    let size = ap length (c.deref.ensures.value ∙ c.in_ok-nodes.ensures) ∙ length-above sha512_256 c.args.level.now in
    (omega (arith, c.requires, size), omega (arith, c.requires, size))

pub returns : goal.returns
returns t c =
    let higher = rw (c.deref.ensures.value, c.in_ok-nodes.ensures) at c.add_path.ensures in
    elim c.if-not-is_alone.branch [
      | then-not-is_alone+in_ok-push w ↦
          let next = rw (w.out-is, w.in_ok-push.ensures.items, append_assoc, w.neighbour.ensures) at higher in
          rw (path_step sha512_256 c.args.level.now c.args.i (omega (arith, c.requires)) c.requires (sym c.is_alone.ensures ∙ w.if-not-is_alone.true)) next
      | else-not-is_alone w ↦
          let next = rw w.out-is at higher in
          rw (path_alone sha512_256 c.args.level.now c.args.i (omega (arith, c.requires)) c.requires (sym c.is_alone.ensures ∙ w.if-not-is_alone.false)) next
    ]
