use Rattle.std.proofs.Common.{◌≡◌, ◌∙◌, ◌*◌, [], ◌∷◌, ◌++◌, arith}
use Rattle.std.proofs.lemmas.List.{drop-map, map-append, take_all, take_more, take-map}
use Rattle.math_shards.proofs.WordShards.{pieces-more}
use Rattle.math_shards.proofs.shards.joining_rows.cell_rows.Goals as goal

pub loop-i-preserved : goal.loop-i-preserved
loop-i-preserved g c = grind (arith, drop-map, take-map, map-append, take_more, pieces-more)

pub returns-clause-indices : goal.returns-clause-indices
returns-clause-indices g c = c.loop-i.invariant.0 ∙ take_all c.loop-i.i c.args.indices.now c.loop-i-test.false

pub returns-clause-cells : goal.returns-clause-cells
returns-clause-cells g c = grind arith
