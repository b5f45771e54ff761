use Rattle.std.proofs.Common.{◌∙◌, arith}
use Rattle.math_shards.proofs.shards.weighing.write_weights.Goals as goal

pub put_restored-requires-clause-below : goal.put_restored-requires-clause-below
put_restored-requires-clause-below c = λ k d l. omega (arith, c.requires.indices.below k d l, c.args.layout.points)

pub returns : goal.returns
returns c = grind arith
