use Rattle.secret_bytes.proofs.AnyLines.{any-lines}
use Rattle.secret_bytes.proofs.laws.any_lines_combine.Goals as goal

pub returns : goal.returns
returns c = any-lines
