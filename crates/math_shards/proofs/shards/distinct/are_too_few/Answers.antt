use Rattle.std.proofs.Common.{◌≡◌, ◌<◌, length, map, arith}
use Rattle.std.proofs.lemmas.Bool.{ltb-true}
use Rattle.std.proofs.lemmas.List.Elements.{All-map}
use Rattle.math_shards.specs.Fitting.{distinct_among}
use Rattle.math_shards.proofs.DistinctIndices.{count_distinct}
use Rattle.math_shards.proofs.shards.distinct.are_too_few.Goals as goal

pub returns : goal.returns
returns g c = λ few.
    let index = g.R.Row.index in
    let rows = c.args.rows.now in
    let indices = c.in_ok-indices.indices in
    let count : length indices.items ≡ distinct_among c.args.total (map index rows) =
    count_distinct indices.items c.in_ok-indices.ensures.rising c.args.total (map index rows) (All-map (λ i. i < c.args.total) index rows c.requires) c.in_ok-indices.ensures.exactly in
    omega (arith, count, c.len.ensures, indices.ok.0, ltb-true c.len.result c.args.min few)
