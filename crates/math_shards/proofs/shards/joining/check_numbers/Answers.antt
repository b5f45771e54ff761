use Rattle.std.proofs.Common.{arith, sym, ◌∙◌}
use Rattle.std.proofs.lemmas.Bool.{false≢true}
use Rattle.math_shards.proofs.SoundShards.{unsound_at}
use Rattle.math_shards.proofs.shards.joining.check_numbers.Goals as goal

pub returns-then-not-matches-clause-err : goal.returns-then-not-matches-clause-err
returns-then-not-matches-clause-err c = unsound_at c.args.first.now _ c.args.shards.now c.loop-shard.shard-index c.shard-item.result c.loop-shard-test.true c.shard-item.is c.loop-shard.invariant
    (λ holds. false≢true (sym c.if-not-matches.true ∙ c.matches.ensures.1 holds))

pub returns-then-shard-clause-err : goal.returns-then-shard-clause-err
returns-then-shard-clause-err c = grind (arith, unsound_at)
