use Rattle.std.proofs.Common.{◌≡◌, ◌∙◌, ℕ, ◌*◌, ◌<◌, ◌≤◌, ◌^◌, ◌⊎◌, inr, List, length, map, sym, subst, arith}
use Rattle.std.proofs.Math.Nat.{mul-le-mul_right}
use Rattle.std.proofs.lemmas.Bool.{eqb-true, false≢true}
use Rattle.std.proofs.lemmas.List.{length-map}
use Rattle.std.proofs.lemmas.Result.{err_from_is_err_and}
use Rattle.math_values.specs.Values.{elements}
use Rattle.math_shards.specs.declared.shards.rows.CellRow.{CellRow}
use Rattle.math_shards.specs.Fitting.{AreRowsOf, DoRowsFit}
use Rattle.math_shards.specs.Joining.{IsDueOfRows, IsMemory}
use Rattle.math_shards.proofs.WordShards.{join_of_words, refused_index, refused_none, refused_numbers, refused_rows, rows_below, rows_wide, some_item}
use Rattle.math_shards.proofs.shards.joining_rows.join_cells.Goals as goal

-- a row is no longer than all
small : (n cols k : ℕ) → 0 < n → k ≡ n * cols → k < 2 ^ 63 → cols < 2 ^ 63
small n cols k there count fits = let one : 1 * cols ≤ n * cols = mul-le-mul_right cols there in omega (arith, one, count, fits)

pub returns-then-is_empty-clause-due : goal.returns-then-is_empty-clause-due
returns-then-is_empty-clause-due g c =
    let words = map g.C.Cell.number c.args.cells.now in
    let count = length-map c.args.cells.now g.C.Cell.number ∙ c.requires.count in
    inr (refused_none c.args.min c.args.total c.args.cols c.args.indices.now words count (eqb-true (length c.args.indices.now) 0 (sym c.if-is_empty.ensures)))

pub returns-in_default-clause-due : goal.returns-in_default-clause-due
returns-in_default-clause-due g c =
    let words = map g.C.Cell.number c.args.cells.now in
    let count = length-map c.args.cells.now g.C.Cell.number ∙ c.requires.count in
    let there : 0 < length c.args.indices.now = some_item c.args.indices.now c.if-is_empty.ensures in
    inr (refused_numbers c.in_ok-rows.rows c.args.min c.args.total c.args.cols (small _ c.args.cols _ there c.requires.count c.requires.fits) c.args.indices.now words count c.requires.below there
    (rw c.in_default.is at c.checked.ensures.none))

pub returns-then-not-are_below-clause-due : goal.returns-then-not-are_below-clause-due
returns-then-not-are_below-clause-due g c =
    let words = map g.C.Cell.number c.args.cells.now in
    let count = length-map c.args.cells.now g.C.Cell.number ∙ c.requires.count in
    let there : 0 < length c.args.indices.now = some_item c.args.indices.now c.if-is_empty.ensures in
    let layout = c.in-Some.layout in
    let made = rw c.in-Some.is at c.checked.ensures.some in
    inr (refused_index c.in_ok-rows.rows c.args.min c.args.total c.args.cols (small _ c.args.cols _ there c.requires.count c.requires.fits) c.args.indices.now words count c.requires.below
    (omega (arith, layout.some, made.0)) (omega (arith, layout.within, made.0, made.1)) (λ all. false≢true (sym c.if-not-are_below.true ∙ c.are_below.ensures.1 all)))

pub returns-in_err-packed-clause-due : goal.returns-in_err-packed-clause-due
returns-in_err-packed-clause-due g c =
    let q = err_from_is_err_and c.from_residual-in_err-packed.result c.from_residual-in_err-packed.ensures.1 in
    let words_of : CellRow g.row.C.Denot → List ℕ = λ row. map g.C.Cell.number row.cells.now in
    let words = map g.C.Cell.number c.args.cells.now in
    let count = length-map c.args.cells.now g.C.Cell.number ∙ c.requires.count in
    let there : 0 < length c.args.indices.now = some_item c.args.indices.now c.if-is_empty.ensures in
    let layout = c.in-Some.layout in
    let made = rw c.in-Some.is at c.checked.ensures.some in
    let e = c.in_err-packed.field-0.0 in
    let due = subst (λ rows. IsMemory e ⊎ IsDueOfRows (λ row. row.index) (λ row. elements (words_of row)) c.args.min c.args.total rows e) c.deref.ensures.value
    (rw (made.0, made.1) at c.in_err-packed.ensures.err) in
    rw (q.1, q.2) (refused_rows c.in_ok-rows.rows c.args.min c.args.total c.args.cols (small _ c.args.cols _ there c.requires.count c.requires.fits) (λ row. row.index) words_of c.args.indices.now words
    c.in_ok-rows.rows.items count c.requires.below there c.in_ok-rows.ensures.indices c.in_ok-rows.ensures.cells (omega (arith, layout.some, made.0)) (omega (arith, layout.within, made.0, made.1))
    (c.are_below.ensures.0 c.if-not-are_below.false) e due)

pub joined_elements-requires : goal.joined_elements-requires
joined_elements-requires g c =
    let words_of : CellRow g.row.C.Denot → List ℕ = λ row. map g.C.Cell.number row.cells.now in
    let made = rw c.in-Some.is at c.checked.ensures.some in
    subst (λ (rows : List (CellRow g.row.C.Denot)). AreRowsOf (λ row. row.index) (λ row. elements (words_of row)) c.in-Some.layout rows) (sym c.deref.ensures.value)
    record {
      below = λ k d l. omega (
        arith,
        made.1,
        rows_below (λ row. row.index) c.args.total c.args.indices.now c.in_ok-rows.rows.items c.in_ok-rows.ensures.indices (c.are_below.ensures.0 c.if-not-are_below.false) k d l,
      );
      count = λ k d l.
          rows_wide words_of (length c.args.indices.now) c.args.cols (map g.C.Cell.number c.args.cells.now) c.in_ok-rows.rows.items (length-map c.args.cells.now g.C.Cell.number ∙ c.requires.count)
          c.in_ok-rows.ensures.cells k d l ∙ sym made.2;
    }

pub returns-clause-ok : goal.returns-clause-ok
returns-clause-ok g c =
    let words_of : CellRow g.row.C.Denot → List ℕ = λ row. map g.C.Cell.number row.cells.now in
    let words = map g.C.Cell.number c.args.cells.now in
    let count = length-map c.args.cells.now g.C.Cell.number ∙ c.requires.count in
    let made = rw c.in-Some.is at c.checked.ensures.some in
    let found = rw (made.0, made.1) at c.in_ok-packed.ensures.ok in
    let there : 0 < length c.args.indices.now = some_item c.args.indices.now c.if-is_empty.ensures in
    let fit = subst (λ rows. DoRowsFit (λ row. row.index) (λ row. elements (words_of row)) found.0 c.args.min c.args.total rows) c.deref.ensures.value found.2 in (
      found.0,
      found.1,
      join_of_words c.in_ok-rows.rows c.args.min c.args.total c.args.cols (small _ c.args.cols _ there c.requires.count c.requires.fits) (λ row. row.index) words_of c.args.indices.now words
          c.in_ok-rows.rows.items count c.requires.below there c.in_ok-rows.ensures.indices c.in_ok-rows.ensures.cells found.0 fit,
    )
