use Rattle.secret_bytes.proofs.WrittenLines.{read-back}
use Rattle.secret_bytes.proofs.laws.lines_are_read_back.Goals as goal

pub returns : goal.returns
returns c = read-back
