use Rattle.std.proofs.Common.{arith, ◌≡◌, ◌∙◌, Contains, get_or, subst, sym, ap}
use Rattle.std.proofs.lemmas.List.{get_or_default}
use Rattle.math_shards.proofs.RefusedRows.{places-known, places-new, unequal_at}
use Rattle.math_shards.proofs.shards.joining.put_place.Goals as goal

pub place_of-at-requires-clause-there : goal.place_of-at-requires-clause-there
place_of-at-requires-clause-there g c =
    let row = c.index-rows-i.result in
    let key : g.R.Row.index (get_or c.args.rows.now c.args.i row) ≡ c.index.result = ap g.R.Row.index (sym c.index-rows-i.is) ∙ sym c.index.ensures in
    subst (Contains c.args.indices.now) key (c.requires.indexed.there c.args.i row c.requires.row)

pub returns-then-place-rows-clause-equal : goal.returns-then-place-rows-clause-equal
returns-then-place-rows-clause-equal g c = λ _.
    places-new g.R.Row.index g.R.Row.cells c.args.indices.now c.args.rows.now c.requires.indexed.rising c.args.i c.index-rows-i.result c.args.places.now c.requires.places c.requires.row
    c.index-rows-i.is c.place_of-at.result c.place_of-at.ensures.inside (c.place_of-at.ensures.index ∙ c.index.ensures) c.if-place-rows.true

pub returns-clause-equal : goal.returns-clause-equal
returns-clause-equal g c = λ e.
    let rows = c.args.rows.now in
    let i = c.args.i in
    let row = c.index-rows-i-2.result in
    let again : c.index-rows-i.result ≡ row = c.index-rows-i.is ∙ get_or_default rows i c.index-rows-i.result row c.requires.row ∙ sym c.index-rows-i-2.is in
    places-known g.R.Row.index g.R.Row.cells c.args.indices.now rows c.requires.indexed.rising i row c.args.places.now c.requires.places c.requires.row c.index-rows-i-2.is
    c.place_of-at.result c.place_of-at.ensures.inside (c.place_of-at.ensures.index ∙ c.index.ensures ∙ ap g.R.Row.index again)
    c.index-rows-place.result c.if-place-rows.false c.index-rows-place.is (c.in_ok-answer.ensures.0 e)

pub returns-clause-unequal : goal.returns-clause-unequal
returns-clause-unequal g c = grind (arith, get_or_default, unequal_at)
