use Rattle.std.proofs.Common.{refl}
use Rattle.shard_blocks.proofs.PutWords.{all_put, next_put}
use Rattle.shard_blocks.proofs.words.put_words.Goals as goal

pub loop-i-preserved : goal.loop-i-preserved
loop-i-preserved c = next_put c.args.bytes.now c.loop-i.bytes c.put_word.new.bytes c.args.words.now c.loop-i.i _ c.loop-i-test.true refl c.loop-i.invariant c.put_word.ensures

pub returns : goal.returns
returns c = all_put c.args.bytes.now c.loop-i.bytes c.args.words.now c.loop-i.i c.requires c.loop-i-test.false c.loop-i.invariant
