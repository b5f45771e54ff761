use Rattle.shard_format.proofs.RecordPlaces.{follow, within, fits}
use Rattle.shard_format.proofs.laws.records_make_the_shard_file.Goals as goal

pub returns-clause-follow : goal.returns-clause-follow
returns-clause-follow c = follow

pub returns-clause-within : goal.returns-clause-within
returns-clause-within c = within

pub returns-clause-fits : goal.returns-clause-fits
returns-clause-fits c = fits
