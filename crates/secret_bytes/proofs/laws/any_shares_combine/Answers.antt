use Rattle.secret_bytes.proofs.AnyShares.{any-shares}
use Rattle.secret_bytes.proofs.laws.any_shares_combine.Goals as goal

pub returns : goal.returns
returns c = any-shares
