use Rattle.std.proofs.Common.{arith}
use Rattle.shard_format.proofs.SpelledElements.{below_where_spelled, spelled_where_below}
use Rattle.shard_format.proofs.records.element_of.Goals as goal

pub returns-then-number-ge-MODULUS-clause-none : goal.returns-then-number-ge-MODULUS-clause-none
returns-then-number-ge-MODULUS-clause-none c = λ n a e.
    let below = below_where_spelled c.args.word.now c.from_be_bytes-number.result a c.from_be_bytes-number.ensures e in
    omega (arith, below, c.if-number-ge-MODULUS.true)

pub returns-clause-some : goal.returns-clause-some
returns-clause-some c =
    spelled_where_below c.args.word.now c.from_be_bytes-number.result c.from.result c.told-word c.fits-word c.from_be_bytes-number.ensures c.if-number-ge-MODULUS.false c.from.ensures
