use Rattle.systematic_shards.proofs.Codewords.{codeword, one_codeword}
use Rattle.systematic_shards.proofs.laws.codewords.Goals as goal

pub returns-clause-once : goal.returns-clause-once
returns-clause-once c = one_codeword

pub returns-clause-through : goal.returns-clause-through
returns-clause-through c = codeword
