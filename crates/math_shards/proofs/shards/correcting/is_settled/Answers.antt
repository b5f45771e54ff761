use Rattle.std.proofs.Common.{arith, ◌≡◌, ◌∙◌, take, get_or, not, eqb, true, false, sym, ap}
use Rattle.std.specs.List.{AllZip, list_all}
use Rattle.std.proofs.lemmas.Bool.{and_from, eq-eqb, false_from_ne_true, ne_eqb, not_from_false, not_from_true, or_from, or_left, or_right}
use Rattle.std.proofs.lemmas.List.Folds.{list_all_at, list_all_more}
use Rattle.math_fields.specs.Elements.{same}
use Rattle.math_shards.specs.Correcting.{are_same}
use Rattle.math_shards.proofs.SettledShards.{agrees, are_same-decides}
use Rattle.math_shards.proofs.shards.correcting.is_settled.Goals as goal
use Rattle.math_shards.proofs.shards.correcting.is_settled.Goals.{else-other-shard-via-then-other-shard+else-not-are_equal, else-other-shard-via-else-other-shard}

pub returns-then-not-are_equal : goal.returns-then-not-are_equal
returns-then-not-are_equal c = grind (arith, false_from_ne_true, are_same-decides, or_from, not_from_true, eq-eqb, list_all_at)

pub loop-other-preserved : goal.loop-other-preserved
loop-other-preserved c =
    let s = c.args.shard.now in
    let t = c.other-item.result in
    let shards = c.args.shards.now in
    let k = c.loop-other.other-index in
    let agree : agrees s t ≡ true =
    elim c.else-other-shard.branch as (λ _. agrees s t ≡ true) [
      | else-other-shard-via-then-other-shard+else-not-are_equal w ↦
          let equal : AllZip same t.cells.items s.cells.items =
          rw (w.deref.ensures.value, w.deref-then-other-shard.ensures.value) at (w.are_equal.ensures.0 w.if-not-are_equal.false) in
          or_right (not (eqb t.index s.index)) (are_same t.cells.items s.cells.items) ((are_same-decides t.cells.items s.cells.items).1 equal)
      | else-other-shard-via-else-other-shard w ↦
          or_left (not (eqb t.index s.index)) (are_same t.cells.items s.cells.items) (not_from_false (eqb t.index s.index) (ne_eqb t.index s.index w.if-other-shard.false))
    ] in
    list_all_more (agrees s) shards k t c.loop-other-test.true
    ∙ and_from (list_all (agrees s) (take k shards)) (agrees s (get_or shards k t)) c.loop-other.invariant (ap (agrees s) (sym c.other-item.is) ∙ agree)
