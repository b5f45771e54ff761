use Rattle.secret_bytes.proofs.ExplainedSecrets.{each-explains}
use Rattle.secret_bytes.proofs.laws.each_secret_explains.Goals as goal

pub returns : goal.returns
returns c = each-explains
