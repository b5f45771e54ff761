use Rattle.std.proofs.Common.{◌≡◌, ◌+◌, get_or, length, subst, sym, arith}
use Rattle.row_interpolation.specs.Written.{AreWritten}
use Rattle.systematic_shards.specs.Words.{IsWithin, word_of_bytes}
use Rattle.systematic_shards.proofs.Written.{next-written}
use Rattle.systematic_shards.proofs.memory.write_words.Goals as goal

pub write_word-requires-clause-fits : goal.write_word-requires-clause-fits
write_word-requires-clause-fits c =
    let k = c.loop-k.k in
    subst (λ n. IsWithin n (c.args.at + k) (get_or c.args.words.now k 0)) (sym c.loop-k.auto.cells) (c.requires.fits k c.loop-k-test.true)

pub loop-k-preserved : goal.loop-k-preserved
loop-k-preserved c =
    next-written c.args.at c.loop-k.k (λ j. get_or c.args.words.now j 0) (word_of_bytes c.args.cells.now) (word_of_bytes c.loop-k.cells) (word_of_bytes c.write_word.new.cells)
    c.write_word.ensures.written c.write_word.ensures.others c.loop-k.invariant

pub returns : goal.returns
returns c =
    let all : c.loop-k.k ≡ length c.args.words.now = omega (arith, c.loop-k-test.false, c.loop-k.auto.k-end) in
    subst (λ n. AreWritten (λ j. c.args.at + j) (λ j. get_or c.args.words.now j 0) n (word_of_bytes c.args.cells.now) (word_of_bytes c.loop-k.cells)) all c.loop-k.invariant
