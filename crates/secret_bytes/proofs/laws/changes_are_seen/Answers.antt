use Rattle.secret_bytes.proofs.SeenChanges.{few_keys}
use Rattle.secret_bytes.proofs.laws.changes_are_seen.Goals as goal

pub returns : goal.returns
returns g c = let F = g.met.R in few_keys F.Object.equality F.Additive.group F.Multiplicative.commutes F.Ring.ring F.Field.field
