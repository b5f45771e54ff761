use Rattle.systematic_shards.proofs.ParityRows.{codeword_through, one_codeword_of, one_encoding}
use Rattle.systematic_shards.proofs.laws.shards.Goals as goal

pub returns-clause-encoded : goal.returns-clause-encoded
returns-clause-encoded c = one_encoding

pub returns-clause-rebuilt : goal.returns-clause-rebuilt
returns-clause-rebuilt c = one_codeword_of

pub returns-clause-through : goal.returns-clause-through
returns-clause-through c = codeword_through
