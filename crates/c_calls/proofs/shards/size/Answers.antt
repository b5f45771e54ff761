use Rattle.std.proofs.Common.{◌≡◌, ◌*◌, ap, arith}
use Rattle.c_calls.proofs.WordShards.{only_size}
use Rattle.c_calls.proofs.shards.size.Goals as goal

pub returns-in-Some-clause-some : goal.returns-in-Some-clause-some
returns-in-Some-clause-some c = grind arith

pub returns-in_default-clause-none : goal.returns-in_default-clause-none
returns-in_default-clause-none c = λ n h.
    let e : c.args.total * n ≡ c.args.total * c.shard_width-cells.result = ap (λ m. c.args.total * m) (only_size c.args.words c.args.min c.args.total c.shard_width-cells.result n c.shard_width-cells.ensures h) in
    absurd (omega (arith, e, h.room, c.in-Some.ensures, c.if-all-lt-WORDS.false))

pub returns-in_default-2-clause-none : goal.returns-in_default-2-clause-none
returns-in_default-2-clause-none c = λ n h.
    let e : c.args.total * n ≡ c.args.total * c.shard_width-cells.result = ap (λ m. c.args.total * m) (only_size c.args.words c.args.min c.args.total c.shard_width-cells.result n c.shard_width-cells.ensures h) in
    absurd (omega (arith, e, h.room, c.in_default.ensures))
