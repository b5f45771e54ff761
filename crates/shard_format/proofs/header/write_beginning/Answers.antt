use Rattle.shard_format.proofs.AppendedWords.{appended_three}
use Rattle.shard_format.proofs.header.write_beginning.Goals as goal

pub returns-clause-ok : goal.returns-clause-ok
returns-clause-ok c = appended_three _ _ _ _ _ _ _ c.in_ok-write.ensures.ok c.in_ok-write-2.ensures.ok c.in_ok-write-3.ensures.ok
