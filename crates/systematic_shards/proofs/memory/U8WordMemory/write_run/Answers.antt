use Rattle.std.proofs.Common.{◌≡◌, ◌+◌, ◌-◌, ◌*◌, ◌<◌, ◌^◌, get_or, length, subst, arith}
use Rattle.systematic_shards.proofs.memory.U8WordMemory.write_run.Goals as goal

pub write_words-requires-clause-fits : goal.write_words-requires-clause-fits
write_words-requires-clause-fits c = λ k l.
    subst (λ n. get_or c.args.words.now k 0 < 2 ^ (8 * (n - 8 * (c.args.at + k)))) (let e : 1 * length c.args.cells.now ≡ length c.args.cells.now = omega arith in e) (c.requires.fits k l)
