use Rattle.std.proofs.Common.{◌≡◌, ◌-◌, ◌*◌, ◌<◌, ◌^◌, length, subst, arith}
use Rattle.systematic_shards.proofs.memory.U8WordMemory.write.Goals as goal

pub write_word-requires-clause-fits : goal.write_word-requires-clause-fits
write_word-requires-clause-fits c = subst (λ n. c.args.value < 2 ^ (8 * (n - 8 * c.args.k))) (let e : 1 * length c.args.cells.now ≡ length c.args.cells.now = omega arith in e) c.requires.fits
