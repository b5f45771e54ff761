use Rattle.secret_bytes.proofs.ExplainedBytes.{each-of-bytes-explains, each-of-bytes-explains-equally-often}
use Rattle.secret_bytes.proofs.laws.each_secret_of_bytes_explains.Goals as goal

pub returns-clause-once : goal.returns-clause-once
returns-clause-once c = each-of-bytes-explains

pub returns-clause-equally : goal.returns-clause-equally
returns-clause-equally c = each-of-bytes-explains-equally-often
