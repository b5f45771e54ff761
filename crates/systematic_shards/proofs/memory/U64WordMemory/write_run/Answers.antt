use Rattle.std.proofs.Common.{◌≡◌, ◌+◌, ◌*◌, get_or, length, subst, sym, arith}
use Rattle.row_interpolation.specs.Written.{AreWritten}
use Rattle.systematic_shards.specs.Words.{IsWithin}
use Rattle.systematic_shards.proofs.Written.{next-written}
use Rattle.systematic_shards.proofs.memory.U64WordMemory.write_run.Goals as goal

pub put_word-requires : goal.put_word-requires
put_word-requires c =
    let k = c.loop-k.k in
    subst (λ n. IsWithin (8 * n) (c.args.at + k) (get_or c.args.words.now k 0)) (sym c.loop-k.auto.cells) (c.requires.fits k c.loop-k-test.true)

pub loop-k-preserved : goal.loop-k-preserved
loop-k-preserved c =
    next-written c.args.at c.loop-k.k (λ j. get_or c.args.words.now j 0) (λ i. get_or c.args.cells.now i 0) (λ i. get_or c.loop-k.cells i 0) (λ i. get_or c.put_word.new.words i 0)
    c.put_word.ensures.written c.put_word.ensures.others c.loop-k.invariant

pub returns : goal.returns
returns c =
    let all : c.loop-k.k ≡ length c.args.words.now = omega (arith, c.loop-k-test.false, c.loop-k.auto.k-end) in
    subst (λ n. AreWritten (λ j. c.args.at + j) (λ j. get_or c.args.words.now j 0) n (λ i. get_or c.args.cells.now i 0) (λ i. get_or c.loop-k.cells i 0)) all c.loop-k.invariant
