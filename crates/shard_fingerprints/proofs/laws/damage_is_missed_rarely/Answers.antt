use Rattle.shard_fingerprints.proofs.KeyPairs.{few_fit, few_pairs, rarely, rarely_with, words}
use Rattle.shard_fingerprints.proofs.laws.damage_is_missed_rarely.Goals as goal

pub returns-clause-pairs : goal.returns-clause-pairs
returns-clause-pairs c = few_pairs

pub returns-clause-rare : goal.returns-clause-rare
returns-clause-rare c = rarely

pub returns-clause-stored : goal.returns-clause-stored
returns-clause-stored c = few_fit

pub returns-clause-stored_rare : goal.returns-clause-stored_rare
returns-clause-stored_rare c = rarely_with

pub returns-clause-shards : goal.returns-clause-shards
returns-clause-shards c = words
