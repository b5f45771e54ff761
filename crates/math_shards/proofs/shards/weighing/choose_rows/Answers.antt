use Rattle.std.proofs.Common.{◌≡◌, ◌∙◌, ◌<◌, ◌^◌, ◌++◌, [], ◌∷◌, true, false, sym, subst, arith}
use Rattle.std.specs.List.{All, Contains}
use Rattle.std.proofs.lemmas.List.{length_push, take_all}
use Rattle.std.proofs.lemmas.List.Elements.{Contains-append_left, Contains-push}
use Rattle.std.proofs.lemmas.Option.{get_or_from_slice_get}
use Rattle.math_shards.proofs.ChosenRows.{AreMarked, all-more, chosen-passed_at, chosen-taken_at, contains-one_of, is_one_of, marked-more}
use Rattle.math_shards.proofs.shards.weighing.choose_rows.Goals as goal
use Rattle.math_shards.proofs.shards.weighing.choose_rows.Goals.{then-len-min+then-not-get+in_ok-push+in_ok-append_to, else-len-min, else-len-min-via-then-len-min+else-not-get, else-len-min-via-else-len-min}

pub loop-row-preserved : goal.loop-row-preserved
loop-row-preserved g c =
    let index = g.R.Row.index in
    let cells = g.R.Row.cells in
    let rows = c.args.rows.now in
    let i = c.loop-row.row-index in
    let row = c.row-item.result in
    let before = c.loop-row.invariant in
    let indices = c.loop-row.indices.items in
    let found = c.loop-row.cells.items in
    let lg = c.args.layout.lg in
    let counted : index row < c.args.layout.total = rw (← c.row-item.is) at (c.requires.below i row c.loop-row-test.true) in
    let below : index row < 2 ^ lg = omega (arith, counted, c.args.layout.points) in
    elim c.if-len-min.branch [
      | then-len-min+then-not-get+in_ok-push+in_ok-append_to w ↦
          let none : is_one_of indices (index row) ≡ false =
          sym (before.marked.marks (index row) below)
          ∙ get_or_from_slice_get c.loop-row.points (index row) false false (rw (w.if-not-get.true, c.index-index.ensures) at w.get.ensures) in
          let marked : AreMarked (2 ^ lg) (indices ++ index row ∷ []) w.set_non_vanishing.new.self =
          subst (AreMarked (2 ^ lg) (indices ++ index row ∷ [])) (sym (rw c.index-index.ensures at w.set_non_vanishing.ensures))
          (marked-more (2 ^ lg) (index row) indices c.loop-row.points below before.marked) in
          rw (w.points-is, w.indices-is, w.cells-is, w.in_ok-push.ensures.items, w.in_ok-append_to.ensures, c.index-index.ensures)
          record {
            few = omega (arith, length_push indices (index row), w.if-len-min.true, c.len.ensures, c.loop-row.indices.ok.0);
            marked = marked;
            rows = chosen-taken_at index cells rows i row indices found c.loop-row-test.true c.row-item.is none before.rows;
            all = λ few. all-more index cells rows i row indices (indices ++ index row ∷ []) c.loop-row-test.true c.row-item.is
                (before.all (omega (arith, w.if-len-min.true, c.len.ensures, c.loop-row.indices.ok.0))) (λ x there. Contains-append_left indices (index row ∷ []) x there) (Contains-push indices (index row));
          }
      | else-len-min w ↦
          rw (w.points-is, w.indices-is, w.cells-is)
          record {
            few = before.few;
            marked = before.marked;
            rows = chosen-passed_at index cells rows i row indices found c.loop-row-test.true before.rows;
            all = elim w.else-len-min.branch [
              | else-len-min-via-then-len-min+else-not-get v ↦ λ few.
                  let there : is_one_of indices (index row) ≡ true =
                  sym (before.marked.marks (index row) below)
                  ∙ get_or_from_slice_get c.loop-row.points (index row) true false (rw (v.if-not-get.false, c.index-index.ensures) at v.get.ensures) in
                  all-more index cells rows i row indices indices c.loop-row-test.true c.row-item.is (before.all few) (λ x there. there) (contains-one_of indices (index row) there)
              | else-len-min-via-else-len-min v ↦ λ few. absurd (omega (arith, few, v.if-len-min.false, c.len.ensures, c.loop-row.indices.ok.0))
            ];
          }
    ]

pub get-requires : goal.get-requires
get-requires g c = grind arith

pub set_non_vanishing-requires : goal.set_non_vanishing-requires
set_non_vanishing-requires g c = grind arith

pub returns-clause-all : goal.returns-clause-all
returns-clause-all g c = λ few.
    subst (All (λ row. Contains c.loop-row.indices.items (g.R.Row.index row))) (take_all c.loop-row.row-index c.args.rows.now (omega (arith, c.loop-row-test.false))) (c.loop-row.invariant.all few)
