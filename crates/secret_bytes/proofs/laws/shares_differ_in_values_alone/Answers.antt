use Rattle.secret_bytes.proofs.DealtHeads.{heads-same}
use Rattle.secret_bytes.proofs.laws.shares_differ_in_values_alone.Goals as goal

pub returns : goal.returns
returns c = heads-same
