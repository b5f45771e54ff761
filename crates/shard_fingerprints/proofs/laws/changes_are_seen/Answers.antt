use Rattle.shard_fingerprints.proofs.SeenChanges.{few_keys, one_change}
use Rattle.shard_fingerprints.proofs.laws.changes_are_seen.Goals as goal

pub returns-clause-keys : goal.returns-clause-keys
returns-clause-keys g c = let F = g.met.R in few_keys F.Object.equality F.Additive.group F.Multiplicative.commutes F.Ring.ring F.Field.field

pub returns-clause-one : goal.returns-clause-one
returns-clause-one g c = let F = g.met.R in one_change F.Object.equality F.Additive.group F.Multiplicative.commutes F.Ring.ring F.Field.field
