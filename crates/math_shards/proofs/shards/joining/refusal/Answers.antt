use Rattle.std.proofs.Common.{◌≡◌, ◌<◌, ℕ, List, length, map, subst, arith}
use Rattle.std.proofs.lemmas.List.Elements.{All-map}
use Rattle.math_shards.specs.Fitting.{distinct_among}
use Rattle.math_shards.specs.Joining.{ArePlacesByIndex}
use Rattle.math_shards.proofs.DistinctIndices.{are_among, count_distinct}
use Rattle.math_shards.proofs.RefusedRows.{none_unequal}
use Rattle.math_shards.proofs.shards.joining.refusal.Goals as goal

pub put_places-requires-clause-indexed : goal.put_places-requires-clause-indexed
put_places-requires-clause-indexed g c =
    let indices = c.in_ok-indices.ensures in
    rw c.deref.ensures.value record {
      rising = indices.rising;
      there = are_among g.R.Row.index c.in_ok-indices.indices.items c.args.rows.now (λ i there. (indices.exactly i).1 there);
      count = c.requires.count;
    }

pub returns-then-len-min : goal.returns-then-len-min
returns-then-len-min g c = λ total below none.
    let index = g.R.Row.index in
    let cells = g.R.Row.cells in
    let rows = c.args.rows.now in
    let indices = c.in_ok-indices.indices in
    let places : List ℕ = c.put_places.new.places in
    let by_index : ArePlacesByIndex index cells indices.items rows (length rows) places =
    subst (λ (xs : List ℕ). ArePlacesByIndex index cells xs rows (length rows) places) c.deref.ensures.value (c.in_ok-put_places.ensures.equal c.if-not-branch.false) in
    let among = are_among index indices.items rows (λ i there. (c.in_ok-indices.ensures.exactly i).1 there) in
    let count : length indices.items ≡ distinct_among total (map index rows) =
    count_distinct indices.items c.in_ok-indices.ensures.rising total (map index rows) (All-map (λ i. i < total) index rows below) c.in_ok-indices.ensures.exactly in
    (none_unequal index cells indices.items rows places by_index among, omega (arith, count, c.if-len-min.true, c.len-3.ensures, indices.ok.0))

pub returns : goal.returns
returns g c = λ total below none.
    let index = g.R.Row.index in
    let cells = g.R.Row.cells in
    let rows = c.args.rows.now in
    let indices = c.in_ok-indices.indices in
    let places : List ℕ = c.put_places.new.places in
    let by_index : ArePlacesByIndex index cells indices.items rows (length rows) places =
    subst (λ (xs : List ℕ). ArePlacesByIndex index cells xs rows (length rows) places) c.deref.ensures.value (c.in_ok-put_places.ensures.equal c.if-not-branch.false) in
    let among = are_among index indices.items rows (λ i there. (c.in_ok-indices.ensures.exactly i).1 there) in
    let count : length indices.items ≡ distinct_among total (map index rows) =
    count_distinct indices.items c.in_ok-indices.ensures.rising total (map index rows) (All-map (λ i. i < total) index rows below) c.in_ok-indices.ensures.exactly in
    (none_unequal index cells indices.items rows places by_index among, omega (arith, count, c.if-len-min.false, c.len-3.ensures, indices.ok.0), none)
