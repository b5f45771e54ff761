use Rattle.secret_bytes.proofs.SeenSlips.{slips}
use Rattle.secret_bytes.proofs.laws.slips_are_seen.Goals as goal

pub returns : goal.returns
returns c = slips
