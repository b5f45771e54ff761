use Rattle.std.proofs.Common.{◌≡◌, take}
use Rattle.shared_secret.specs.Shares.{values}
use Rattle.secret_bytes.specs.Columns.{column}
use Rattle.secret_bytes.proofs.combining.values_of.Given as goal

-- the values so far
abbrev pub invariant-loop-share : goal.invariant-loop-share
invariant-loop-share l = l.out.items ≡ values (column l.j (take l.share-index l.shares))
