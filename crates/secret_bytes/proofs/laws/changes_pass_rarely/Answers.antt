use Rattle.secret_bytes.proofs.ChangedShares.{changes-pass-rarely}
use Rattle.secret_bytes.proofs.laws.changes_pass_rarely.Goals as goal

pub returns : goal.returns
returns c = changes-pass-rarely
